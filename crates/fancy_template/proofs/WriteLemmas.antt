-- Lemmas on the calls of a writer, and on the bytes that it holds.
use Rattle.std.proofs.Common.{arith, ℕ, ◌+◌, ◌<◌, ◌≤◌, ◌≡◌, List, [], ◌∷◌, ◌++◌, Option, Result, Ok, Err, length, take, drop}
use Rattle.std.specs.Io.KnownBytes.{Appends}
use Rattle.std.specs.IoError.{error_kind}
use Rattle.std.specs.declared.io.Error.{Error as Fault}
use Rattle.std.specs.declared.io.ErrorKind.TheVariants.{WriteZero}
use Rattle.std.proofs.KnownBytes.{Appends-trans}
use Rattle.std.proofs.lemmas.List.{drop-drop, drop_all, length-drop}
use Rattle.std.proofs.Math.Seq.{take-add}
use Rattle.fancy_template.specs.Writers.{Writing, over, written, takes, is_refused, takes_none}

pub appends_more : (a b c : Option (List ℕ)) (t : List ℕ) (n m : ℕ) → Appends a b (take n t) → Appends b c (take m (drop n t)) → Appends a c (take (n + m) t)
appends_more a b c t n m p q = rw (take-add n m t) (Appends-trans a b c (take n t) (take m (drop n t)) p q)

module _ {W : Type 0} (answers : W → List ℕ → Result ℕ Fault → W → Type 0) where
  -- The calls that were made have taken n bytes of the text: whatever writes the rest from here on completes them.
  abbrev pub IsBegun : W → List ℕ → W → ℕ → Type 0
  IsBegun first text now n = (result : Result (Unit {0}) Fault) (last : W) → Writing answers now (drop n text ∷ []) result last → Writing answers first (text ∷ []) result last

  pub begun_more : (first now next : W) (text rest : List ℕ) (n m : ℕ) → rest ≡ drop n text → IsBegun first text now n → 0 < m → m ≤ length rest → answers now rest (Ok m) next → IsBegun first text next (n + m)
  begun_more first now next text rest n m e begun some most call result last more =
      begun result last (rw (← e) (takes now next last m rest [] result some most call (rw (e, drop-drop m n text) more)))

  -- all of the text has been taken
  pub begun_all : (first now : W) (text : List ℕ) (n : ℕ) → length text ≤ n → IsBegun first text now n → Writing answers first (text ∷ []) (Ok tt) now
  begun_all first now text n h begun = begun (Ok tt) now (rw (drop_all n text h) (written now now [] (Ok tt) (over now)))

  -- the last call was refused
  pub begun_refused : (first now next : W) (text rest : List ℕ) (n : ℕ) (fault : Fault) → rest ≡ drop n text → n < length text → IsBegun first text now n → answers now rest (Err fault) next → Writing answers first (text ∷ []) (Err fault) next
  begun_refused first now next text rest n fault e h begun call = begun (Err fault) next (rw (← e) (is_refused now next rest [] fault (rw (e, length-drop n text) (omega arith)) call))

  -- the last call took no byte
  pub begun_stopped : (first now next : W) (text rest : List ℕ) (n : ℕ) (fault : Fault) → rest ≡ drop n text → n < length text → IsBegun first text now n → answers now rest (Ok 0) next → error_kind fault ≡ WriteZero → Writing answers first (text ∷ []) (Err fault) next
  begun_stopped first now next text rest n fault e h begun call kind = begun (Err fault) next (rw (← e) (takes_none now next rest [] fault (rw (e, length-drop n text) (omega arith)) call kind))

  -- texts that were written, and then the others
  pub written_then : (s next last : W) (texts more : List (List ℕ)) (result : Result (Unit {0}) Fault) → Writing answers s texts (Ok tt) next → Writing answers next more result last → Writing answers s (texts ++ more) result last
  written_then _ _ last _ more result (over s) rest = rest
  written_then _ next last _ more result (written s _ texts _ w) rest = written s last (texts ++ more) result (written_then s next last texts more result w rest)
  written_then _ next last _ more result (takes s u _ n text texts _ some most call w) rest =
      takes s u last n text (texts ++ more) result some most call (written_then u next last (drop n text ∷ texts) more result w rest)

  -- texts of which one was refused: those after it are not written
  pub refused_then : (s last : W) (texts more : List (List ℕ)) (fault : Fault) → Writing answers s texts (Err fault) last → Writing answers s (texts ++ more) (Err fault) last
  refused_then _ last _ more fault (written s _ texts _ w) = written s last (texts ++ more) (Err fault) (refused_then s last texts more fault w)
  refused_then _ last _ more fault (takes s u _ n text texts _ some most call w) = takes s u last n text (texts ++ more) (Err fault) some most call (refused_then u last (drop n text ∷ texts) more fault w)
  refused_then _ _ _ more _ (is_refused s last text texts fault some call) = is_refused s last text (texts ++ more) fault some call
  refused_then _ _ _ more _ (takes_none s last text texts fault some call kind) = takes_none s last text (texts ++ more) fault some call kind

  -- The calls that were made have written all but the texts that are left: whatever writes these from here on completes them.
  abbrev pub IsWrittenBut : W → List (List ℕ) → W → List (List ℕ) → Type 0
  IsWrittenBut first texts now left = (result : Result (Unit {0}) Fault) (last : W) → Writing answers now left result last → Writing answers first texts result last

  pub written_text : (first now next : W) (texts left : List (List ℕ)) (text : List ℕ) → IsWrittenBut first texts now (text ∷ left) → Writing answers now (text ∷ []) (Ok tt) next → IsWrittenBut first texts next left
  written_text first now next texts left text before w result last rest = before result last (written_then now next last (text ∷ []) left result w rest)

  pub refused_text : (first now next : W) (texts left : List (List ℕ)) (text : List ℕ) (fault : Fault) → IsWrittenBut first texts now (text ∷ left) → Writing answers now (text ∷ []) (Err fault) next → Writing answers first texts (Err fault) next
  refused_text first now next texts left text fault before w = before (Err fault) next (refused_then now next (text ∷ []) left fault w)
