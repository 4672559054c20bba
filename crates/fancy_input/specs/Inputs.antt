-- What an input is made of: the haystack, and the request of where and how it is searched.
use Rattle.fancy_input.specs.declared.regex_input.RegexInput.{RegexInput}
use Rattle.fancy_input.specs.declared.input.Request.{Request}

abbrev pub haystack_in : {S : Type 0} {g : _} → RegexInput S g → S
haystack_in input = input.haystack

abbrev pub request_in : {S : Type 0} {g : _} → RegexInput S g → Request
request_in input = input.request
