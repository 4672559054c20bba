-- What each instruction costs where the ways from it die.
use Rattle.std.proofs.Common.{◌≡◌, ℕ, zero, suc, ◌+◌, ◌≤◌, ◌==◌, Bool, true, false, List, [], ◌∷◌, ◌++◌, length, Option, Some, None, if◌then◌else◌, nat_le, refl, sym, ap, ◌∙◌, subst, arith, slice_get, slice_index, slice_set, ne_eqb, true≢false}
use Rattle.fancy_tree.specs.declared.tree.Meaning.{Meaning}
use Rattle.fancy_tree.specs.declared.tree.Assertion.{Assertion}
use Rattle.fancy_tree.specs.Sets.{has}
use Rattle.fancy_meaning.specs.Context.{Context, State, holds, moved_to, option_to, past_byte, past_item, units_back, with_capture}
use Rattle.fancy_meaning.specs.Events.{any, ends_look}
use Rattle.fancy_code.specs.Instructions.{Instruction, Fail, Match, Commit, Assert, Back, Character, Close, Deny, Enter, Keep, Look, Member, Open, RawByte, Split}
use Rattle.fancy_code.specs.Run.{Raw, Note, Stop, choice_opened, returned, fetched, Go, before, join, guard, fenced, halt, onward, resume, instr_at, act, run}
use Rattle.fancy_code.proofs.RunMore.{past_end}
use Rattle.fancy_prices.specs.declared.facts.Before.{Before}
use Rattle.fancy_prices.specs.declared.facts.Facts.{Facts}
use Rattle.fancy_prices.specs.Facts.{FailsWith, HoldsWith, Stands}
use Rattle.fancy_prices.specs.Prices.{MissesIn, Misses, Costs, Dies, FindsNone, IsQuietIn, Quiet, IsQuiet, BeginsNone}
use Rattle.fancy_prices.proofs.BeginLemmas.{no_item}

pub costs_same : (wanted : State → Bool) (m r k l : ℕ) (o : Option (List Raw)) → m ≡ k → r ≡ l → Misses wanted m r o → Misses wanted k l o
costs_same wanted m r k l o e f h = subst (λ (i : ℕ). Misses wanted k i o) f (subst (λ (i : ℕ). Misses wanted i r o) e h)

module _ (wanted : State → Bool) where
  append : (m r k l : ℕ) (a b : List Raw) → MissesIn wanted m r a → MissesIn wanted k l b → MissesIn wanted (m + k) (r + suc l) (a ++ Note returned ∷ b)
  append m r k l [] b ha hb = (l, omega (arith, ha.1), subst (λ (i : ℕ). MissesIn wanted i l b) (omega (arith, ha.0)) hb)
  append m r k l (Note choice_opened ∷ a) b ha hb = (ha.0 + k, omega (arith, ha.1), append ha.0 r k l a b ha.2 hb)
  append m r k l (Note returned ∷ a) b ha hb = (ha.0 + suc l, omega (arith, ha.1), append m ha.0 k l a b ha.2 hb)
  append m r k l (Note fetched ∷ a) b ha hb = append m r k l a b ha hb
  append m r k l (Stop q s v ∷ a) b ha hb = (ha.0, append m r k l a b ha.1 hb)

  -- two ways of a choice
  pub joined : (m r k l : ℕ) (o p : Option (List Raw)) → Misses wanted m r o → Misses wanted k l p → Misses wanted (m + k) (r + suc l) (join o p)
  joined m r k l None p ha hb = tt
  joined m r k l (Some a) None ha hb = tt
  joined m r k l (Some a) (Some b) ha hb = append m r k l a b ha hb

  pub opened : (m r : ℕ) (o : Option (List Raw)) → Misses wanted m r o → Misses wanted (suc m) r (before (Note choice_opened) o)
  opened m r None h = tt
  opened m r (Some w) h = (m, refl, h)

  pub gone_back : (m r : ℕ) (o : Option (List Raw)) → Misses wanted m r o → Misses wanted m (suc r) (before (Note returned) o)
  gone_back m r None h = tt
  gone_back m r (Some w) h = (r, refl, h)

  pub read_on : (m r : ℕ) (o : Option (List Raw)) → Misses wanted m r o → Misses wanted m r (before (Note fetched) o)
  read_on m r None h = tt
  read_on m r (Some w) h = h

  -- where no way stops, none stops as wanted
  pub none_wanted : (m r : ℕ) (o : Option (List Raw)) → Costs m r o → Misses wanted m r o
  none_wanted m r None h = tt
  none_wanted m r (Some w) h = by m r w h where
    by : (m r : ℕ) (w : List Raw) → MissesIn any m r w → MissesIn wanted m r w
    by m r [] h = h
    by m r (Note choice_opened ∷ w) h = (h.0, h.1, by h.0 r w h.2)
    by m r (Note returned ∷ w) h = (h.0, h.1, by m h.0 w h.2)
    by m r (Note fetched ∷ w) h = by m r w h
    by m r (Stop q s v ∷ w) h = absurd (true≢false h.0)

pub read : (m r : ℕ) (o : Option (List Raw)) → Costs m r o → Costs m r (before (Note fetched) o)
read = read_on any

-- where a region's body finds nothing, what is missed follows
module _ (found : Go) (wanted : State → Bool) (missed : Option (List Raw)) (k l : ℕ) (h : Costs k l missed) where
  pass_by : (b : Bool) (m r : ℕ) (a o : Option (List Raw)) → b ≡ false → Costs m r o → Costs m r (if b then a else o)
  pass_by b m r a o e g = subst (λ (c : Bool). Costs m r (if c then a else o)) (sym e) g

  guard_missed : (m r : ℕ) (w : List Raw) → MissesIn wanted m r w → Costs (m + k) (r + l) (guard found wanted missed w)
  guard_missed m r [] g = costs_same any k l (m + k) (r + l) missed (omega (arith, g.0)) (omega (arith, g.1)) h
  guard_missed m r (Note choice_opened ∷ w) g =
      costs_same any (suc (g.0 + k)) (r + l) (m + k) (r + l) (before (Note choice_opened) (guard found wanted missed w)) (omega (arith, g.1)) refl
      (opened any (g.0 + k) (r + l) (guard found wanted missed w) (guard_missed g.0 r w g.2))
  guard_missed m r (Note returned ∷ w) g =
      costs_same any (m + k) (suc (g.0 + l)) (m + k) (r + l) (before (Note returned) (guard found wanted missed w)) refl (omega (arith, g.1))
      (gone_back any (m + k) (g.0 + l) (guard found wanted missed w) (guard_missed m g.0 w g.2))
  guard_missed m r (Note fetched ∷ w) g = read (m + k) (r + l) (guard found wanted missed w) (guard_missed m r w g)
  guard_missed m r (Stop q s v ∷ w) g = pass_by (wanted s) (m + k) (r + l) (found q s v) (guard found wanted missed w) g.0 (guard_missed m r w g.1)

  pub fenced_missed : (m r : ℕ) (o : Option (List Raw)) → Misses wanted m r o → Costs (m + k) (r + l) (fenced found wanted missed o)
  fenced_missed m r None g = tt
  fenced_missed m r (Some w) g = guard_missed m r w g

-- and where nothing follows, it costs what the body does
pub fenced_none : (found : Go) (wanted : State → Bool) (m r : ℕ) (o : Option (List Raw)) → Misses wanted m r o → Costs m r (fenced found wanted (Some []) o)
fenced_none found wanted m r o h =
    costs_same any (m + 0) (r + 0) m r (fenced found wanted (Some []) o) (omega arith) (omega arith) (fenced_missed found wanted (Some []) 0 0 (refl, refl) m r o h)

module _ (found : Go) (wanted : State → Bool) where
  -- where a body is quiet, and what follows dies without an event, so does the whole
  module _ (free : (q : ℕ) (s : State) (v : List ℕ) → Costs 0 0 (found q s v)) where
    either_free : (b : Bool) (o p : Option (List Raw)) → Costs 0 0 o → Costs 0 0 p → Costs 0 0 (if b then o else p)
    either_free true o p f g = f
    either_free false o p f g = g

    guard_quiet : (w : List Raw) → IsQuietIn w → Costs 0 0 (guard found wanted (Some []) w)
    guard_quiet [] h = (refl, refl)
    guard_quiet (Note choice_opened ∷ w) h = absurd h
    guard_quiet (Note returned ∷ w) h = absurd h
    guard_quiet (Note fetched ∷ w) h = read 0 0 (guard found wanted (Some []) w) (guard_quiet w h)
    guard_quiet (Stop q s v ∷ w) h = either_free (wanted s) (found q s v) (guard found wanted (Some []) w) (free q s v) (guard_quiet w h)

    fenced_quiet : (o : Option (List Raw)) → Quiet o → Costs 0 0 (fenced found wanted (Some []) o)
    fenced_quiet None h = tt
    fenced_quiet (Some w) h = guard_quiet w h

-- another byte stands there
no_raw_byte : (x : Context) (byte here p : ℕ) → (here ≡ byte → ⊥) → slice_get x.haystack p ≡ Some here → past_byte x byte p ≡ None
unfolding past_byte
no_raw_byte x byte here p other stands =
    ap (λ (o : Option ℕ). option_to o None (λ b. if b == byte then Some (p + 1) else None)) stands
    ∙ ap (λ (b : Bool). if b then Some (p + 1) else None) (ne_eqb here byte other)

module _ (code : List Instruction) (meaning : Meaning) (f : Facts) where
  abbrev DiesBy : ℕ → ℕ → ℕ → Instruction → Type 0
  DiesBy m r at i =
      (x : Context) (limit n : ℕ) (s : State) (v : List ℕ) → x.meaning ≡ meaning → Stands f x.haystack s.place
      → Costs m r (act x limit at i (run x limit code n) (run x (length x.haystack) code n) s v)

  pub dies_by : (m r at : ℕ) (i : Instruction) → instr_at code at ≡ i → DiesBy m r at i → Dies code meaning f m r at
  dies_by m r at i is h x limit zero s v meant stands = tt
  dies_by m r at i is h x limit (suc n) s v meant stands =
      read m r (act x limit at (instr_at code at) (run x limit code n) (run x (length x.haystack) code n) s v)
      (subst (λ (j : Instruction). Costs m r (act x limit at j (run x limit code n) (run x (length x.haystack) code n) s v)) (sym is) (h x limit n s v meant stands))

  pub dies_fail : (at : ℕ) → instr_at code at ≡ Fail → Dies code meaning f 0 0 at
  dies_fail at is = dies_by 0 0 at Fail is (λ x limit n s v meant stands. (refl, refl))

  pub dies_nowhere : (at : ℕ) → length code ≤ at → Dies code meaning f 0 0 at
  dies_nowhere at le = dies_fail at (past_end code at le)

  pub dies_open : (m r at group next : ℕ) → instr_at code at ≡ Open group next → Dies code meaning f m r next → Dies code meaning f m r at
  dies_open m r at group next is h = dies_by m r at (Open group next) is (λ x limit n s v meant stands. h x limit n s (slice_set v group s.place) meant stands)

  pub dies_close : (m r at group next : ℕ) → instr_at code at ≡ Close group next → Dies code meaning f m r next → Dies code meaning f m r at
  dies_close m r at group next is h =
      dies_by m r at (Close group next) is (λ x limit n s v meant stands. h x limit n (with_capture s group (slice_index v group)) v meant stands)

  pub dies_keep : (m r at next : ℕ) → instr_at code at ≡ Keep next → Dies code meaning f m r next → Dies code meaning f m r at
  dies_keep m r at next is h = dies_by m r at (Keep next) is (λ x limit n s v meant stands. h x limit n (record s { kept = s.place }) v meant stands)

  -- a test that may hold or not: what follows dies without an event, as the test does
  pub dies_assert : (at : ℕ) (a : Assertion) (next : ℕ) → instr_at code at ≡ Assert a next → Dies code meaning f 0 0 next → Dies code meaning f 0 0 at
  dies_assert at a next is h =
      dies_by 0 0 at (Assert a next) is (λ x limit n s v meant stands. by (holds x a s.place) (run x limit code n next s v) (h x limit n s v meant stands)) where
        by : (b : Bool) (o : Option (List Raw)) → Costs 0 0 o → Costs 0 0 (if b then o else (Some []))
        by true o g = g
        by false o g = (refl, refl)

  -- a test that fails
  pub dies_failed : (at : ℕ) (a : Assertion) (next : ℕ) → instr_at code at ≡ Assert a next → FailsWith a f → Dies code meaning f 0 0 at
  dies_failed at a next is fails =
      dies_by 0 0 at (Assert a next) is (λ x limit n s v meant stands. by (holds x a s.place) (run x limit code n next s v) (fails x s.place stands)) where
        by : (b : Bool) (o : Option (List Raw)) → b ≡ false → Costs 0 0 (if b then o else (Some []))
        by true o e = absurd (true≢false e)
        by false o e = (refl, refl)

  -- a test that holds: what follows dies
  pub dies_held : (m r at : ℕ) (a : Assertion) (next : ℕ) → instr_at code at ≡ Assert a next → HoldsWith a f → Dies code meaning f m r next → Dies code meaning f m r at
  dies_held m r at a next is held h =
      dies_by m r at (Assert a next) is (λ x limit n s v meant stands. by (holds x a s.place) (run x limit code n next s v) (held x s.place stands) (h x limit n s v meant stands)) where
        by : (b : Bool) (o : Option (List Raw)) → b ≡ true → Costs m r o → Costs m r (if b then o else (Some []))
        by true o e g = g
        by false o e g = absurd (true≢false (sym e))

  pub dies_enter : (m r at body : ℕ) → instr_at code at ≡ Enter body → Dies code meaning f m r body → Dies code meaning f m r at
  dies_enter m r at body is h =
      dies_by m r at (Enter body) is
      (λ x limit n s v meant stands. fenced_none (run x limit code n) any m r (run x limit code n body s v) (h x limit n s v meant stands))

  -- two ways that die
  pub dies_split : (m r k l at a b : ℕ) → instr_at code at ≡ Split a b → Dies code meaning f m r a → Dies code meaning f k l b → Dies code meaning f (suc (m + k)) (r + suc l) at
  dies_split m r k l at a b is g h =
      dies_by (suc (m + k)) (r + suc l) at (Split a b) is
      (λ x limit n s v meant stands.
      opened any (m + k) (r + suc l) (join (run x limit code n a s v) (run x limit code n b s v))
      (joined any m r k l (run x limit code n a s v) (run x limit code n b s v) (g x limit n s v meant stands) (h x limit n s v meant stands)))

  -- the body of a look-around that dies
  pub finds_none : (behind : Bool) (m r body : ℕ) → Dies code meaning f m r body → FindsNone code meaning behind f m r body
  finds_none behind m r body h x limit n s v meant stands = none_wanted (ends_look behind s.place) m r (run x limit code n body s v) (h x limit n s v meant stands)

  -- a look-around whose body finds nothing
  pub dies_look : (behind : Bool) (m r at body next : ℕ) → instr_at code at ≡ Look behind body next → FindsNone code meaning behind f m r body → Dies code meaning f m r at
  dies_look behind m r at body next is h =
      dies_by m r at (Look behind body next) is
      (λ x limit n s v meant stands.
      fenced_none (resume (run x limit code n) next s.place) (ends_look behind s.place) m r (run x (length x.haystack) code n body s v)
      (h x (length x.haystack) n s v meant stands))

  -- a negated one whose body finds nothing, if what follows dies
  pub dies_deny : (behind : Bool) (m r k l at body next : ℕ) → instr_at code at ≡ Deny behind body next → FindsNone code meaning behind f m r body → Dies code meaning f k l next
      → Dies code meaning f (suc (m + k)) (r + suc l) at
  dies_deny behind m r k l at body next is g h =
      dies_by (suc (m + k)) (r + suc l) at (Deny behind body next) is
      (λ x limit n s v meant stands.
      opened any (m + k) (r + suc l) (fenced halt (ends_look behind s.place) (before (Note returned) (run x limit code n next s v)) (run x (length x.haystack) code n body s v))
      (fenced_missed halt (ends_look behind s.place) (before (Note returned) (run x limit code n next s v)) k (suc l)
      (gone_back any k l (run x limit code n next s v) (h x limit n s v meant stands)) m r (run x (length x.haystack) code n body s v)
      (g x (length x.haystack) n s v meant stands)))

  -- and one that may find something or not: what follows dies without an event, as the look-around does
  pub dies_look_quiet : (behind : Bool) (at body next : ℕ) → instr_at code at ≡ Look behind body next → IsQuiet code body → Dies code meaning f 0 0 next → Dies code meaning f 0 0 at
  dies_look_quiet behind at body next is quiet h =
      dies_by 0 0 at (Look behind body next) is
      (λ x limit n s v meant stands.
      fenced_quiet (resume (run x limit code n) next s.place) (ends_look behind s.place) (λ q t y. h x limit n (moved_to t s.place) y meant stands)
      (run x (length x.haystack) code n body s v) (quiet x (length x.haystack) n s v))

  -- no item of the instruction begins with the byte that stands there
  module _ (at next : ℕ) (test : ℕ → Bool) (never : BeginsNone meaning test f.here) where
    none_read : (x : Context) (limit n : ℕ) (s : State) (v : List ℕ) → x.meaning ≡ meaning → Stands f x.haystack s.place
        → Costs 0 0 (onward limit (run x limit code n) next s v (past_item x test s.place))
    none_read x limit n s v meant stands =
        subst (λ (o : Option ℕ). Costs 0 0 (onward limit (run x limit code n) next s v o))
        (sym (no_item x test s.place f.here (subst (λ (m : Meaning). BeginsNone m test f.here) (sym meant) never) stands.here)) (refl, refl)

    pub dies_member : (edges : List ℕ) → instr_at code at ≡ Member edges next → test ≡ has edges → Dies code meaning f 0 0 at
    dies_member edges is e =
        dies_by 0 0 at (Member edges next) is
        (λ x limit n s v meant stands.
        subst (λ (g : ℕ → Bool). Costs 0 0 (onward limit (run x limit code n) next s v (past_item x g s.place))) e (none_read x limit n s v meant stands))

  pub dies_character : (at c next : ℕ) → instr_at code at ≡ Character c next → BeginsNone meaning (λ d. d == c) f.here → Dies code meaning f 0 0 at
  dies_character at c next is never = dies_by 0 0 at (Character c next) is (none_read at next (λ d. d == c) never)

  pub dies_raw_byte : (at byte next : ℕ) → instr_at code at ≡ RawByte byte next → (f.here ≡ byte → ⊥) → Dies code meaning f 0 0 at
  dies_raw_byte at byte next is other =
      dies_by 0 0 at (RawByte byte next) is
      (λ x limit n s v meant stands.
      subst (λ (o : Option ℕ). Costs 0 0 (onward limit (run x limit code n) next s v o)) (sym (no_raw_byte x byte f.here s.place other stands.here)) (refl, refl))

-- no mark and no return

read_quiet : (o : Option (List Raw)) → Quiet o → Quiet (before (Note fetched) o)
read_quiet None h = tt
read_quiet (Some w) h = h

if_quiet : (b : Bool) (o : Option (List Raw)) → Quiet o → Quiet (if b then o else (Some []))
if_quiet true o h = h
if_quiet false o h = tt

onward_quiet : (limit : ℕ) (go : Go) (next : ℕ) (s : State) (v : List ℕ) → ((t : State) → Quiet (go next t v)) → (o : Option ℕ) → Quiet (onward limit go next s v o)
onward_quiet limit go next s v h None = tt
onward_quiet limit go next s v h (Some p) = if_quiet (nat_le p limit) (go next (moved_to s p) v) (h (moved_to s p))

back_quiet : (go : Go) (next : ℕ) (s : State) (v : List ℕ) → ((t : State) → Quiet (go next t v)) → (o : Option ℕ) → Quiet (option_to o (Some []) (λ p. go next (moved_to s p) v))
back_quiet go next s v h None = tt
back_quiet go next s v h (Some p) = h (moved_to s p)

module _ (code : List Instruction) where
  abbrev QuietBy : ℕ → Instruction → Type 0
  QuietBy at i = (x : Context) (limit n : ℕ) (s : State) (v : List ℕ) → Quiet (act x limit at i (run x limit code n) (run x (length x.haystack) code n) s v)

  quiet_by : (at : ℕ) (i : Instruction) → instr_at code at ≡ i → QuietBy at i → IsQuiet code at
  quiet_by at i is h x limit zero s v = tt
  quiet_by at i is h x limit (suc n) s v =
      read_quiet (act x limit at (instr_at code at) (run x limit code n) (run x (length x.haystack) code n) s v)
      (subst (λ (j : Instruction). Quiet (act x limit at j (run x limit code n) (run x (length x.haystack) code n) s v)) (sym is) (h x limit n s v))

  pub quiet_match : (at : ℕ) → instr_at code at ≡ Match → IsQuiet code at
  quiet_match at is = quiet_by at Match is (λ x limit n s v. tt)

  pub quiet_fail : (at : ℕ) → instr_at code at ≡ Fail → IsQuiet code at
  quiet_fail at is = quiet_by at Fail is (λ x limit n s v. tt)

  pub quiet_nowhere : (at : ℕ) → length code ≤ at → IsQuiet code at
  quiet_nowhere at le = quiet_fail at (past_end code at le)

  pub quiet_commit : (at next : ℕ) → instr_at code at ≡ Commit next → IsQuiet code at
  quiet_commit at next is = quiet_by at (Commit next) is (λ x limit n s v. tt)

  pub quiet_character : (at c next : ℕ) → instr_at code at ≡ Character c next → IsQuiet code next → IsQuiet code at
  quiet_character at c next is h =
      quiet_by at (Character c next) is
      (λ x limit n s v. onward_quiet limit (run x limit code n) next s v (λ t. h x limit n t v) (past_item x (λ d. d == c) s.place))

  pub quiet_member : (at : ℕ) (edges : List ℕ) (next : ℕ) → instr_at code at ≡ Member edges next → IsQuiet code next → IsQuiet code at
  quiet_member at edges next is h =
      quiet_by at (Member edges next) is
      (λ x limit n s v. onward_quiet limit (run x limit code n) next s v (λ t. h x limit n t v) (past_item x (has edges) s.place))

  pub quiet_raw_byte : (at byte next : ℕ) → instr_at code at ≡ RawByte byte next → IsQuiet code next → IsQuiet code at
  quiet_raw_byte at byte next is h =
      quiet_by at (RawByte byte next) is
      (λ x limit n s v. onward_quiet limit (run x limit code n) next s v (λ t. h x limit n t v) (past_byte x byte s.place))

  pub quiet_back : (at units next : ℕ) → instr_at code at ≡ Back units next → IsQuiet code next → IsQuiet code at
  quiet_back at units next is h =
      quiet_by at (Back units next) is (λ x limit n s v. back_quiet (run x limit code n) next s v (λ t. h x limit n t v) (units_back x units s.place))

  pub quiet_assert : (at : ℕ) (a : Assertion) (next : ℕ) → instr_at code at ≡ Assert a next → IsQuiet code next → IsQuiet code at
  quiet_assert at a next is h = quiet_by at (Assert a next) is (λ x limit n s v. if_quiet (holds x a s.place) (run x limit code n next s v) (h x limit n s v))

  pub quiet_open : (at group next : ℕ) → instr_at code at ≡ Open group next → IsQuiet code next → IsQuiet code at
  quiet_open at group next is h = quiet_by at (Open group next) is (λ x limit n s v. h x limit n s (slice_set v group s.place))

  pub quiet_close : (at group next : ℕ) → instr_at code at ≡ Close group next → IsQuiet code next → IsQuiet code at
  quiet_close at group next is h = quiet_by at (Close group next) is (λ x limit n s v. h x limit n (with_capture s group (slice_index v group)) v)

-- what dies by less that is told dies by more
pub dies_told : (code : List Instruction) (meaning : Meaning) (here : ℕ) (before : Option Before) (m r at : ℕ) → Dies code meaning (record { here = here; before = None }) m r at
    → Dies code meaning (record { here = here; before = before }) m r at
dies_told code meaning here before m r at dies x limit n s v meant stands = dies x limit n s v meant (record { here = stands.here; before = tt })
