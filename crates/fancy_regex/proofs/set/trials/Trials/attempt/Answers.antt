use Rattle.fancy_core.specs.Regexes.{program_in}
use Rattle.fancy_input.specs.Inputs.{haystack_in, request_in}
use Rattle.fancy_search.proofs.CutLemmas.{groups_cut_at}
use Rattle.fancy_regex.proofs.set.trials.Trials.attempt.Goals as goal

pub captures_found-requires : goal.captures_found-requires
captures_found-requires g c = rw c.haystack-haystack.ensures (record {
  cut = groups_cut_at (program_in c.args.member.now) (g.S.Haystack.text (haystack_in c.args.input)) (g.S.Haystack.bytes (haystack_in c.args.input)) (request_in c.args.input) _ c.args.position c.in-Some.found c.find_at.new.self.cache.engines
      _ c.args.input.inside c.requires.ends c.requires.searched.suits (λ t. rw (c.as_bytes.ensures.bytes, c.haystack-haystack.ensures) at ((rw c.haystack-haystack.ensures at c.as_bytes.ensures.utf8) t))
      (rw (c.in-Some.is, c.as_bytes.ensures.bytes, c.haystack-haystack.ensures, c.request-request.ensures.value) at c.in_ok-found.ensures.found);
})

pub returns-clause-allowed : goal.returns-clause-allowed
returns-clause-allowed g c = rw (c.as_bytes.ensures.bytes, c.haystack-haystack.ensures, c.request-request.ensures.value) at c.in_ok-found.ensures.allowed
