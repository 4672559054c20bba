-- Texts that are written one after another are one text.
use Rattle.std.proofs.Common.{◌≡◌, ℕ, List, [], ◌++◌, Option, Result, Ok, Err, OnOk, append_assoc, sym, subst}
use Rattle.std.specs.Io.KnownBytes.{Appends}
use Rattle.std.proofs.KnownBytes.{Appends-trans}
use Rattle.fancy_explain.specs.Explained.{WritesText, Explains}

module _ {W : Type 0} (contents : W → Option (List ℕ)) where
  pub text_then : (a b d : W) → WritesText contents a b → WritesText contents b d → WritesText contents a d
  text_then a b d p q = (p.0 ++ q.0, Appends-trans (contents a) (contents b) (contents d) p.0 q.0 p.1 q.1)

  pub ok_then : {X E : Type 0} (a b d : W) (r : Result X E) → WritesText contents a b → OnOk r (WritesText contents b d) → OnOk r (WritesText contents a d)
  ok_then a b d (Ok x) p q = text_then a b d p q
  ok_then a b d (Err e) p q = tt

  -- the name, and then a text
  pub named : {X E : Type 0} (a b d : W) (r : Result X E) (name : List ℕ) → Appends (contents a) (contents b) name → OnOk r (WritesText contents b d) → OnOk r (Explains contents a name [] d)
  named a b d (Ok x) name p q = ([], q.0, Appends-trans (contents a) (contents b) (contents d) name q.0 p q.1)
  named a b d (Err e) name p q = tt

  -- the name, a text, the two parts of the line, and a text
  pub named_line : {X E : Type 0} (a b c d e f : W) (r : Result X E) (name before after : List ℕ)
      → Appends (contents a) (contents b) name → WritesText contents b c → Appends (contents c) (contents d) before → Appends (contents d) (contents e) after
      → OnOk r (WritesText contents e f) → OnOk r (Explains contents a name (before ++ after) f)
  named_line a b c d e f (Ok x) name before after p q s t u =
      let one = Appends-trans (contents d) (contents e) (contents f) after u.0 t u.1 in
      let two = Appends-trans (contents c) (contents d) (contents f) before (after ++ u.0) s one in
      let three = subst (λ (l : List ℕ). Appends (contents c) (contents f) l) (sym (append_assoc before after u.0)) two in
      let four = Appends-trans (contents b) (contents c) (contents f) q.0 ((before ++ after) ++ u.0) q.1 three in
      (q.0, u.0, Appends-trans (contents a) (contents b) (contents f) name (q.0 ++ ((before ++ after) ++ u.0)) p four)
  named_line a b c d e f (Err x) name before after p q s t u = tt

  pub ok_appends : {X E : Type 0} (a b : W) (r : Result X E) (text : List ℕ) → OnOk r (Appends (contents a) (contents b) text) → OnOk r (WritesText contents a b)
  ok_appends a b (Ok x) text p = (text, p)
  ok_appends a b (Err e) text p = tt
