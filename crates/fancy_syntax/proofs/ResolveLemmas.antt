-- How references are resolved, one after another.
use Rattle.std.proofs.Common.{◌≡◌, ℕ, ◌+◌, ◌-◌, ◌<◌, ◌≤◌, ◌==◌, ◌&&◌, not, nat_le, min, Bool, true, false, List, [], ◌∷◌, ◌++◌, map, length, take, get_or, None, Result, Ok, Err, refl, sym, ap, ap₂, ◌∙◌, cond, arith}
use Rattle.std.proofs.lemmas.Bool.Decides.{nat_tests}
use Rattle.std.specs.Char.{is_ascii_digit}
use Rattle.std.proofs.lemmas.List.{map_more, map-append}
use Rattle.std.proofs.lemmas.List.Elements.{All-more}
use Rattle.fancy_tree.specs.declared.error.Error.{Error}
use Rattle.fancy_tree.specs.declared.error.Error.TheVariants.{Memory, ParseError, CompileError, RuntimeError}
use Rattle.fancy_syntax.specs.declared.reference.Target.{Target as Found_target}
use Rattle.fancy_tree.specs.Text.{Text}
use Rattle.fancy_syntax.specs.Counts.{past_digits, are_digits, decimal}
use Rattle.fancy_tree.specs.Limits.{largest_told}
use Rattle.fancy_syntax.specs.References.{Groups, ReferenceFault, no_number, no_name, resolve, fault_in, group_in, target_fault, group_for, group_numbered, group_in_digits}
use Rattle.fancy_tree.specs.declared.name.GroupName.{GroupName}
use Rattle.fancy_syntax.specs.declared.parse.Draft.{Draft}
use Rattle.fancy_tree.specs.Names.{named_groups}
use Rattle.fancy_syntax.specs.Dialect.{has_name}
use Rattle.fancy_syntax.specs.Views.{target_of, targets_of, draft_groups, Resolves, RefusesReference, AreResolved, HaveFault}

pub refuses_as : (e : Error) {P Q : ReferenceFault → Type 0} → ((f : ReferenceFault) → P f → Q f) → RefusesReference e P → RefusesReference e Q
refuses_as Memory more h = tt
refuses_as (ParseError at kind) more h = absurd h
refuses_as (CompileError why) more (f, e, h) = (f, e, more f h)
refuses_as (RuntimeError why) more h = absurd h

-- digits alone, or not
digits_alone : (t : Text) → past_digits t ≡ [] → are_digits t ≡ true
digits_alone [] h = refl
digits_alone (c ∷ t) h = go (is_ascii_digit c) refl h (λ e. digits_alone t e)
  where
    go : (b : Bool) → is_ascii_digit c ≡ b → cond b (past_digits t) (c ∷ t) ≡ [] → (past_digits t ≡ [] → are_digits t ≡ true) → are_digits (c ∷ t) ≡ true
    go true e h on = rw e (on h)
    go false e h on = cc

no_digits_alone : (t : Text) → (past_digits t ≡ [] → ⊥) → are_digits t ≡ false
no_digits_alone [] h = absurd (h refl)
no_digits_alone (c ∷ t) h = go (is_ascii_digit c) refl h (λ e. no_digits_alone t e)
  where
    go : (b : Bool) → is_ascii_digit c ≡ b → (cond b (past_digits t) (c ∷ t) ≡ [] → ⊥) → ((past_digits t ≡ [] → ⊥) → are_digits t ≡ false) → are_digits (c ∷ t) ≡ false
    go true e h on = rw e (on h)
    go false e h on = rw e refl

pub by_its_number : (g : Groups) (t : Text) (r : Result ℕ Error) → past_digits t ≡ [] → Resolves (group_numbered g (decimal t)) r → Resolves (group_in_digits g t) r
by_its_number g t r h x = rw (digits_alone t h) x

pub no_number_either : (g : Groups) (t : Text) (e : Error) → (past_digits t ≡ [] → ⊥) → RefusesReference e (λ f. f ≡ no_name t) → Resolves (group_in_digits g t) (Err e)
no_number_either g t e h x = rw (no_digits_alone t h) (refuses_as e (λ f same. ap Err (sym same)) x)

-- a number that no group has
pub out_of_range : (n opened : ℕ) → (1 ≤ n → n ≤ opened → ⊥) → (nat_le 1 n && nat_le n opened) ≡ false
out_of_range n opened h = go (nat_le 1 n) (nat_le n opened) refl refl
  where
    go : (a b : Bool) → nat_le 1 n ≡ a → nat_le n opened ≡ b → (a && b) ≡ false
    go true true e f = absurd (h (grind (arith, nat_tests)) (grind (arith, nat_tests)))
    go true false e f = refl
    go false b e f = refl

pub no_such_number : (g : Groups) (n m : ℕ) → g.by_name ≡ false → (nat_le 1 n && nat_le n g.opened) ≡ false → m ≡ min n largest_told → group_numbered g n ≡ Err (no_number m)
no_such_number g n m h f e = rw (h, f, e) refl

-- whether there are names
pub any_named : (names : List GroupName) → has_name (named_groups names) ≡ not (length names == 0)
any_named [] = refl
any_named (n ∷ names) = let some : (length (n ∷ names) == 0) ≡ false = grind (arith, nat_tests) in rw some refl

-- the groups that the code resolves by are those of the pattern
pub same_groups : (only_named : Bool) (draft : Draft) (b : Bool) (names : List (Text × ℕ)) → b ≡ (only_named && has_name names) → names ≡ named_groups draft.names.items
    → ◌≡◌ {A = Groups} (record { by_name = b; opened = draft.groups - 1; names = names }) (draft_groups only_named draft)
same_groups only_named draft b names h e =
    ap₂ (λ (x : Bool) (ns : List (Text × ℕ)). let g : Groups = record { by_name = x; opened = draft.groups - 1; names = ns } in g)
    (h ∙ ap (λ (ns : List (Text × ℕ)). only_named && has_name ns) e) e

-- one more reference
module _ (g : Groups) (ts : List Found_target) (i : ℕ) (t : Found_target) (below : i < length ts) (is : t ≡ get_or ts i t) where
  pub numbers_more : (n : ℕ) → resolve g (target_of t) ≡ Ok n → map (group_for g) (targets_of (take (i + 1) ts)) ≡ map (group_for g) (targets_of (take i ts)) ++ n ∷ []
  numbers_more n e =
      ap (map (group_for g)) (map_more target_of ts i t below)
      ∙ (map-append (group_for g) (targets_of (take i ts)) (target_of (get_or ts i t) ∷ [])
      ∙ ap (λ m. map (group_for g) (targets_of (take i ts)) ++ m ∷ []) (ap (λ (x : Found_target). group_for g (target_of x)) (sym is) ∙ ap group_in e))

  pub resolved_more : (n : ℕ) → resolve g (target_of t) ≡ Ok n → AreResolved g (take i ts) → AreResolved g (take (i + 1) ts)
  resolved_more n e all = All-more (λ w. target_fault g (target_of w) ≡ None) ts i t below all (ap (λ (x : Found_target). target_fault g (target_of x)) (sym is) ∙ ap fault_in e)

  pub refused_here : (e : Error) → RefusesReference e (λ f. resolve g (target_of t) ≡ Err f) → RefusesReference e (HaveFault g ts)
  refused_here e h = refuses_as e (λ f k. (i, t, below, sym is, ap fault_in k)) h
