-- A template without substitution characters is one text for all matches.
use Rattle.std.proofs.Common.{ℕ, ◌≡◌, Bool, true, false, List, None, Some, refl, ◌∙◌, chars, encode_utf8_all, IsUtf8, if◌then◌else◌}
use Rattle.std.proofs.lemmas.Str.{encodes-chars}
use Rattle.fancy_template.specs.Marks.{has_mark}
use Rattle.fancy_template.specs.Templates.{dollar_syntax}
use Rattle.fancy_template.proofs.MarkLemmas.{unmarked_expands}
use Rattle.fancy_core.specs.GroupTexts.{Seen, group_texts, expansion_of}
use Rattle.fancy_core.specs.Replacing.{fixed_of}

fixed_at : (template : List ℕ) (c : Seen) (x y : List ℕ) (b : Bool) → has_mark 36 (chars template) ≡ b → (if b then None else Some (encode_utf8_all (chars template))) ≡ Some x → y ≡ expansion_of template c → y ≡ x
fixed_at template c x y true e f h = absurd (cc)
fixed_at template c x y false e f h = let k : encode_utf8_all (chars template) ≡ x = cc in h ∙ (unmarked_expands dollar_syntax (group_texts c) (chars template) e ∙ k)

-- what it appends is that text
pub fixed_is_expansion : (template : List ℕ) (c : Seen) (x y : List ℕ) → fixed_of template ≡ Some x → y ≡ expansion_of template c → y ≡ x
fixed_is_expansion template c x y f h = fixed_at template c x y (has_mark 36 (chars template)) refl f h

pub fixed_none : (template : List ℕ) → has_mark 36 (chars template) ≡ true → None ≡ fixed_of template
fixed_none template e = rw e refl

pub fixed_some : (template : List ℕ) → IsUtf8 template → has_mark 36 (chars template) ≡ false → Some template ≡ fixed_of template
fixed_some template u e = rw (e, encodes-chars template u) refl
