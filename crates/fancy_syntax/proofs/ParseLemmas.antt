-- What the reading of a whole text says of its patterns.
use Rattle.std.proofs.Common.{◌≡◌, ◌<◌, ◌≤◌, ◌+◌, ◌-◌, ◌^◌, ℕ, ◌==◌, ◌&&◌, not, min, Bool, true, false, List, [], ◌∷◌, length, map, All, Any, Some, None, Result, Ok, Err, IfOk, IfErr, refl, sym, ap, ap₂, ◌∙◌, subst, arith}
use Rattle.std.proofs.Math.ListN as math
use Rattle.std.proofs.lemmas.List.{length-map}
use Rattle.std.proofs.lemmas.List.Elements.{All-map}
use Rattle.fancy_tree.specs.Limits.{most_nodes, most_parentheses}
use Rattle.fancy_tree.specs.declared.error.CompileError.TheVariants.{InvalidBackref, InvalidGroupNameBackref, NamedBackrefOnly, LookBehindNotConst, PatternCanNeverMatch, PatternTooComplex}
use Rattle.fancy_tree.specs.declared.error.Error.{Error}
use Rattle.fancy_tree.specs.declared.error.Error.TheVariants.{Memory, ParseError, CompileError, RuntimeError}
use Rattle.fancy_tree.specs.Pattern.{Pattern, pattern_of}
use Rattle.fancy_tree.specs.Sizes.{size, nodes, are_sized}
use Rattle.fancy_tree.specs.Text.{Text}
use Rattle.fancy_tree.specs.Names.{named_groups}
use Rattle.fancy_tree.specs.GroupNames.{names_of}
use Rattle.fancy_tree.specs.declared.name.GroupName.{GroupName}
use Rattle.fancy_syntax.specs.declared.parse.Parsed.{Parsed}
use Rattle.fancy_syntax.specs.declared.parse.Draft.{Draft}
use Rattle.fancy_syntax.specs.declared.reference.Target.{Target as Found_target}
use Rattle.fancy_tree.specs.declared.error.CompileError.{CompileError as Compiling}
use Rattle.fancy_syntax.specs.References.{Target, ReferenceFault, Groups, group_for}
use Rattle.fancy_tree.specs.Refers.{number_in, refers_to}
use Rattle.fancy_syntax.specs.Dialect.{Scope, DialectOptions, begin, has_name, groups_at, fault_in_scope, numbers, Spells, SpellsUnder, IsPattern}
use Rattle.fancy_syntax.specs.Grammar.{Place, start}
use Rattle.fancy_syntax.specs.Refusals.{IsRefused, IsNotAccepted}
use Rattle.fancy_syntax.specs.Views.{MemoryOr, Alternation, target_of, targets_of, draft_groups, told_fault, RefusesReference, HasBadSize, RefusesSizes, SpellsDraft, HasNoSpelling, AreResolved, HaveFault, draft_numbers}
use Rattle.fancy_class.specs.Readings.{IsTheReading, HasNoReading}
use Rattle.fancy_syntax.proofs.ParserLemmas.{MemoryOr-weaker, no_whole_reading, not_whole, whole_reading}
use Rattle.fancy_tree.proofs.Facts.{true_is_false, some_is_none}
use Rattle.fancy_syntax.proofs.SpellingLemmas.{spelling_read, reading_spelled}
use Rattle.fancy_syntax.proofs.UnnamedLemmas.{settles, none_settled, one_under, one_end_under}
use Rattle.fancy_tree.proofs.RefersLemmas.{nodes-refers_to}

-- where a parser begins
pub begun : (s : Scope) {names : List GroupName} {wanted : List Found_target} {text : Text} → s.names ≡ [] → s.wanted ≡ [] → names ≡ [] → wanted ≡ []
    → ◌≡◌ {A = Place} (start (record s { names = named_groups names; wanted = targets_of wanted }) text) (start s text)
begun s {names} {wanted} {text} h f e g = ap₂ (λ (l : List (Text × ℕ)) (m : List Target). start (record s { names = l; wanted = m }) text) (ap named_groups e ∙ sym h) (ap targets_of g ∙ sym f)

pub no_reading : {s : Scope} {text : Text} {p : Place} (e : Error) → p ≡ start s text → MemoryOr e (HasNoReading (Alternation most_parentheses) p) → MemoryOr e (HasNoSpelling (Spells s text))
no_reading e is none = MemoryOr-weaker e (λ h t end x. no_whole_reading is h t _ (spelling_read x)) none

pub no_pattern : {s : Scope} {text : Text} {p q : Place} {found : Pattern} → p ≡ start s text → IsTheReading (Alternation most_parentheses) p found q → (q.text ≡ [] → ⊥) → HasNoSpelling (Spells s text)
no_pattern is h left t end x = not_whole is h left t _ (spelling_read x)

pub spelled : {s : Scope} {text : Text} {p q : Place} {found : Pattern} → p ≡ start s text → IsTheReading (Alternation most_parentheses) p found q → q.text ≡ [] → Spells s text found q.scope
spelled is h all = reading_spelled (whole_reading is h all)

-- what is not spelled is refused
pub refused_as : (o : DialectOptions) {text whole : Text} (e : Error) → text ≡ whole → MemoryOr e (HasNoSpelling (SpellsUnder o text)) → IsRefused e o whole
refused_as o Memory is none = tt
refused_as o (ParseError at kind) is none = subst (λ t. HasNoSpelling (SpellsUnder o t)) is none
refused_as o (CompileError why) is none = absurd none
refused_as o (RuntimeError why) is none = absurd none

-- names that are not none
has_some : (names : List GroupName) {all : List (Text × ℕ)} {n : ℕ} → named_groups names ≡ all → n ≡ length names → false ≡ (n == 0) → has_name all ≡ true
has_some [] e same h = absurd (true_is_false (sym (h ∙ ap (λ m. m == 0) same)))
has_some (n ∷ names) e same h = ap has_name (sym e)

-- the reading by names alone, where a name was read
only_names : {on : Bool} {named : Bool} → on ≡ true → named ≡ true → false ≡ not (on && named)
only_names h e = rw (h, e) refl

module _ (o : DialectOptions) (text : Text) (first : Draft) (s : SpellsDraft (Spells (begin true o) text) first) (h : o.only_named ≡ true) (n : ℕ) (many : n ≡ length first.names.items) (some : false ≡ (n == 0)) where
  decided : false ≡ not (o.only_named && has_name s.0.names)
  decided = only_names h (has_some first.names.items s.3 many some)

  pub spelled_again : (r : Result Draft Error) → IfOk r (λ p. SpellsDraft (Spells (begin false o) text) p) → IfOk r (λ p. SpellsDraft (SpellsUnder o text) p)
  spelled_again (Ok p) (e, x, groups, names, wanted) = (e, settles false s.1 decided x, groups, names, wanted)
  spelled_again (Err e) x = tt

  pub refused_again : (r : Result Draft Error) → IfErr r (λ e. MemoryOr e (HasNoSpelling (Spells (begin false o) text))) → IfErr r (λ e. MemoryOr e (HasNoSpelling (SpellsUnder o text)))
  refused_again (Ok p) x = tt
  refused_again (Err e) x = MemoryOr-weaker e (none_settled false s.1 decided) x

-- references that each name a group have no fault
no_fault : (o : DialectOptions) (e : Scope) {f : ReferenceFault} → All (λ w. fault_in_scope o e w ≡ None) e.wanted → Any (λ w. fault_in_scope o e w ≡ Some f) e.wanted → ⊥
no_fault o e all (k, w, below, is, h) = some_is_none (sym h ∙ (ap (fault_in_scope o e) (sym is) ∙ all k w below))

no_fault_under : {o : DialectOptions} {text : Text} {p q : Pattern} {e : Scope} {f : ReferenceFault} (x : IsPattern o text p) → SpellsUnder o text q e → Any (λ w. fault_in_scope o e w ≡ Some f) e.wanted → ⊥
no_fault_under {o} {f = f} x y some = no_fault o x.end x.resolved (subst (λ (z : Scope). Any (λ w. fault_in_scope o z w ≡ Some f) z.wanted) (one_end_under y x.spelled) some)

-- the accepted pattern is what the text spells, its references resolved
same_resolved : {o : DialectOptions} {text : Text} {p q : Pattern} {e : Scope} → SpellsUnder o text q e → IsPattern o text p → refers_to (numbers o e) q ≡ p
same_resolved {o} y x = ap₂ (λ (e : Scope) (w : Pattern). refers_to (numbers o e) w) (one_end_under y x.spelled) (one_under y x.spelled) ∙ sym x.is

-- a pattern of the dialect is refused only for want of memory
pub refused_is_memory : {o : DialectOptions} {text : Text} {p : Pattern} (e : Error) → IsRefused e o text → IsPattern o text p → e ≡ Memory
refused_is_memory Memory h x = refl
refused_is_memory (ParseError at kind) h x = absurd (h x.written x.end x.spelled)
refused_is_memory {o} {text} {p} (CompileError PatternTooComplex) (q, end, y, large) x =
    let same : q ≡ x.written = one_under y x.spelled in
    let small : nodes p ≤ most_nodes = x.small in
    let more : most_nodes < nodes x.written = subst (λ r. most_nodes < nodes r) same large in
    let as_many : nodes p ≡ nodes x.written = ap nodes x.is ∙ nodes-refers_to (numbers o x.end) x.written in
    absurd (omega (arith, small, more, as_many))
refused_is_memory (CompileError (InvalidBackref n)) (q, end, y, some) x = absurd (no_fault_under x y some)
refused_is_memory (CompileError (InvalidGroupNameBackref n)) (q, end, y, some) x = absurd (no_fault_under x y some)
refused_is_memory (CompileError NamedBackrefOnly) (q, end, y, some) x = absurd (no_fault_under x y some)
refused_is_memory {o} (CompileError LookBehindNotConst) (q, end, y, unsized) x =
    absurd (true_is_false (sym x.sized ∙ (ap (are_sized o.meaning) (sym (same_resolved y x)) ∙ unsized)))
refused_is_memory {o} (CompileError PatternCanNeverMatch) (q, end, y, on, none) x =
    absurd (x.fills on (ap (size o.meaning) (sym (same_resolved y x)) ∙ none))
refused_is_memory (RuntimeError why) h x = absurd h

-- a text under options has at most one pattern
pub one_accepted : {o : DialectOptions} {text : Text} {p q : Pattern} → IsPattern o text p → IsPattern o text q → p ≡ q
one_accepted {o} x y = x.is ∙ (ap₂ (λ (e : Scope) (p : Pattern). refers_to (numbers o e) p) (one_end_under x.spelled y.spelled) (one_under x.spelled y.spelled) ∙ sym y.is)

more_nodes : (n m : ℕ) → m ≡ min n (2 ^ 64 - 1) → most_nodes < m → most_nodes < n
more_nodes n m e h = omega (arith, e, h)

few_nodes : (n m : ℕ) → m ≡ min n (2 ^ 64 - 1) → m ≤ most_nodes → n ≤ most_nodes
few_nodes n m e h = omega (arith, e, h)

pub too_complex : {o : DialectOptions} {text whole : Text} (r : Draft) {m : ℕ} → SpellsDraft (SpellsUnder o text) r → text ≡ whole → m ≡ min (nodes (pattern_of r.tree)) (2 ^ 64 - 1) → most_nodes < m → IsRefused (CompileError PatternTooComplex) o whole
too_complex {o} r {m} s is e h = (pattern_of r.tree, s.0, subst (λ t. SpellsUnder o t (pattern_of r.tree) s.0) is s.1, more_nodes (nodes (pattern_of r.tree)) m e h)

-- what holds of some view holds of one of the views
any_seen : {X Y : Type 0} (f : X → Y) (P : Y → Type 0) (xs : List X) → Any (λ x. P (f x)) xs → Any P (map f xs)
any_seen f P xs (k, x, below, is, h) = (k, f x, omega (arith, below, length-map xs f), math.get_or-map f xs k x ∙ ap f is, h)

module _ (o : DialectOptions) {text whole : Text} (draft : Draft) (s : SpellsDraft (SpellsUnder o text) draft) (same : text ≡ whole) where
  -- the groups that references are resolved by are those of the pattern's end
  groups_are : draft_groups o.only_named draft ≡ groups_at o s.0
  groups_are =
      let opened : draft.groups - 1 ≡ s.0.opened = omega (arith, s.2) in
      ap₂ (λ (n : ℕ) (names : List (Text × ℕ)). let g : Groups = record { by_name = o.only_named && has_name names; opened = n; names = names } in g) opened s.3

  pub accepted : {m : ℕ} (first : Parsed) (r : Result Parsed Error) → m ≡ min (nodes (pattern_of draft.tree)) (2 ^ 64 - 1) → m ≤ most_nodes
      → pattern_of first.tree ≡ refers_to (draft_numbers o.only_named draft) (pattern_of draft.tree)
      → (first.groups ≡ draft.groups) × (names_of first.names ≡ named_groups draft.names.items)
      → AreResolved (draft_groups o.only_named draft) draft.wanted.items
      → IfOk r (λ p. p ≡ first) → IfOk r (λ p. are_sized o.meaning (pattern_of p.tree) ≡ true)
      → IfOk r (λ p. o.not_empty ≡ true → (size o.meaning (pattern_of p.tree) ≡ Some 0) → ⊥)
      → IfOk r (λ p. (h : IsPattern o whole (pattern_of p.tree)) × (h.end.opened + 1 ≡ p.groups) × (names_of p.names ≡ h.end.names))
  accepted first (Err e) n few tree kept all same_one sized fills = tt
  accepted first (Ok p) n few tree kept all same_one sized fills =
      let is : pattern_of p.tree ≡ refers_to (numbers o s.0) (pattern_of draft.tree) =
      ap (λ (x : Parsed). pattern_of x.tree) same_one ∙ tree ∙ ap₂ (λ (g : Groups) (ws : List Target). refers_to (number_in (map (group_for g) ws)) (pattern_of draft.tree)) groups_are s.4 in
      let resolved : All (λ w. fault_in_scope o s.0 w ≡ None) s.0.wanted =
      subst (λ (ws : List Target). All (λ w. fault_in_scope o s.0 w ≡ None) ws) s.4
      (All-map (λ w. fault_in_scope o s.0 w ≡ None) target_of draft.wanted.items (subst (λ (g : Groups). AreResolved g draft.wanted.items) groups_are all)) in
      let few_written = few_nodes (nodes (pattern_of draft.tree)) _ n few in
      let as_many : nodes (pattern_of p.tree) ≡ nodes (pattern_of draft.tree) = ap nodes is ∙ nodes-refers_to (numbers o s.0) (pattern_of draft.tree) in (
        record {
          written = pattern_of draft.tree;
          end = s.0;
          spelled = subst (λ t. SpellsUnder o t (pattern_of draft.tree) s.0) same s.1;
          is = is;
          resolved = resolved;
          sized = sized;
          fills = fills;
          small = omega (arith, few_written, as_many);
        },
        s.2 ∙ sym (ap (λ (x : Parsed). x.groups) same_one ∙ kept.0),
        ap (λ (x : Parsed). names_of x.names) same_one ∙ kept.1 ∙ s.3,
      )

  -- a reference that names no group is the reason of a refusal
  has_fault : {f : ReferenceFault} → HaveFault (draft_groups o.only_named draft) draft.wanted.items f → Any (λ w. fault_in_scope o s.0 w ≡ Some f) s.0.wanted
  has_fault {f} some =
      subst (λ (ws : List Target). Any (λ w. fault_in_scope o s.0 w ≡ Some f) ws) s.4
      (any_seen target_of (λ w. fault_in_scope o s.0 w ≡ Some f) draft.wanted.items (subst (λ (g : Groups). HaveFault g draft.wanted.items f) groups_are some))

  not_accepted : (why : Compiling) (f : ReferenceFault) → told_fault why ≡ Some f → Any (λ w. fault_in_scope o s.0 w ≡ Some f) s.0.wanted → IsNotAccepted why o whole
  not_accepted (InvalidBackref n) f e some = (pattern_of draft.tree, s.0, subst (λ t. SpellsUnder o t (pattern_of draft.tree) s.0) same s.1, subst (λ g. Any (λ w. fault_in_scope o s.0 w ≡ g) s.0.wanted) (sym e) some)
  not_accepted (InvalidGroupNameBackref n) f e some = (pattern_of draft.tree, s.0, subst (λ t. SpellsUnder o t (pattern_of draft.tree) s.0) same s.1, subst (λ g. Any (λ w. fault_in_scope o s.0 w ≡ g) s.0.wanted) (sym e) some)
  not_accepted NamedBackrefOnly f e some = (pattern_of draft.tree, s.0, subst (λ t. SpellsUnder o t (pattern_of draft.tree) s.0) same s.1, subst (λ g. Any (λ w. fault_in_scope o s.0 w ≡ g) s.0.wanted) (sym e) some)
  not_accepted LookBehindNotConst f e some = absurd (some_is_none (sym e))
  not_accepted PatternCanNeverMatch f e some = absurd (some_is_none (sym e))
  not_accepted PatternTooComplex f e some = absurd (some_is_none (sym e))

  pub refused_by : (e : Error) → RefusesReference e (HaveFault (draft_groups o.only_named draft) draft.wanted.items) → IsRefused e o whole
  refused_by Memory h = tt
  refused_by (ParseError at kind) h = absurd h
  refused_by (CompileError why) (f, e, some) = not_accepted why f e (has_fault some)
  refused_by (RuntimeError why) h = absurd h

  -- what is refused for the sizes of the pattern with its references resolved
  has_bad_size : (why : Compiling) → HasBadSize why o (refers_to (numbers o s.0) (pattern_of draft.tree)) → IsNotAccepted why o whole
  has_bad_size (InvalidBackref n) h = absurd h
  has_bad_size (InvalidGroupNameBackref n) h = absurd h
  has_bad_size NamedBackrefOnly h = absurd h
  has_bad_size LookBehindNotConst h = (pattern_of draft.tree, s.0, subst (λ t. SpellsUnder o t (pattern_of draft.tree) s.0) same s.1, h)
  has_bad_size PatternCanNeverMatch h = (pattern_of draft.tree, s.0, subst (λ t. SpellsUnder o t (pattern_of draft.tree) s.0) same s.1, h.0, h.1)
  has_bad_size PatternTooComplex h = absurd h

  by_size : (e : Error) → RefusesSizes e o (refers_to (numbers o s.0) (pattern_of draft.tree)) → IsRefused e o whole
  by_size Memory h = absurd h
  by_size (ParseError at kind) h = absurd h
  by_size (CompileError why) h = has_bad_size why h
  by_size (RuntimeError why) h = absurd h

  -- a size is the reason of a refusal
  pub refused_sizes : (first : Parsed) (r : Result Parsed Error)
      → pattern_of first.tree ≡ refers_to (draft_numbers o.only_named draft) (pattern_of draft.tree)
      → IfErr r (λ e. RefusesSizes e o (pattern_of first.tree)) → IfErr r (λ e. IsRefused e o whole)
  refused_sizes first (Ok p) tree h = tt
  refused_sizes first (Err e) tree h =
      let same_one = tree ∙ ap₂ (λ (g : Groups) (ws : List Target). refers_to (number_in (map (group_for g) ws)) (pattern_of draft.tree)) groups_are s.4 in
      by_size e (subst (λ (q : Pattern). RefusesSizes e o q) same_one h)

pub only_memory : {o : DialectOptions} {text : Text} {p : Pattern} (r : Result Parsed Error) → IfErr r (λ e. IsRefused e o text) → IsPattern o text p → IfErr r (λ e. e ≡ Memory)
only_memory (Ok p) h x = tt
only_memory (Err e) h x = refused_is_memory e h x
