-- Names stand on groups, one after another.
use Rattle.std.proofs.Common.{◌≡◌, ℕ, ◌+◌, ◌≤◌, Bool, List, [], ◌∷◌, ◌++◌, Option, sym, subst, ap, ◌∙◌, append_assoc, append-nil, arith}
use Rattle.fancy_tree.specs.Pattern.{Pattern}
use Rattle.fancy_tree.specs.Text.{Text}
use Rattle.fancy_syntax.specs.Dialect.{Scope, DialectOptions, begin, Branches, one, either, Parts, nothing, item, Item, set, bare, quantified, Atom, single, plain, flagged, capture, unnamed, named, marked, reference, reference_by_name, tested, decided, back_to, inside, Spells}
use Rattle.fancy_syntax.specs.declared.groups.Grouping.{Grouping}
use Rattle.fancy_syntax.specs.declared.groups.Grouping.TheVariants.{Atomic, LookAhead, LookBehind}
use Rattle.fancy_tree.specs.GroupNumbers.{Rising}

-- numbers that rise from a number on do so from a lesser one
from_less : (a b hi : ℕ) (names : List (Text × ℕ)) → a ≤ b → Rising b hi names → Rising a hi names
from_less a b hi [] l h = tt
from_less a b hi (g ∷ rest) l h = (omega (arith, l, h.0), h.1, h.2)

joined : (a b c : ℕ) (xs ys : List (Text × ℕ)) → a ≤ b → b ≤ c → Rising a b xs → Rising b c ys → Rising a c (xs ++ ys)
joined a b c [] ys l m h f = from_less a b c ys l f
joined a b c (g ∷ xs) ys l m h f = (h.0, omega (arith, h.1, m), joined (g.1 + 1) b c xs ys (omega (arith, h.1)) m h.2 f)

-- the names that were put to those before
record Named (s r : Scope) : Type 0 where
  more : s.opened ≤ r.opened
  new : List (Text × ℕ)
  names : r.names ≡ s.names ++ new
  rising : Rising (s.opened + 1) (r.opened + 1) new

none : (s : Scope) → Named s s
none s = record { more = omega arith; new = []; names = sym (append-nil s.names); rising = tt }

then : {s q r : Scope} → Named s q → Named q r → Named s r
then {s} {q} {r} a b = record {
  more = omega (arith, a.more, b.more);
  new = a.new ++ b.new;
  names = b.names ∙ (ap (λ l. l ++ b.new) a.names ∙ append_assoc s.names a.new b.new);
  rising = joined (s.opened + 1) (q.opened + 1) (r.opened + 1) a.new b.new (omega (arith, a.more)) (omega (arith, b.more)) a.rising b.rising;
}

of_marked : (how : Grouping) (s q : Scope) → Named (inside how s) q → Named s q
of_marked Atomic s q x = x
of_marked (LookAhead negated) s q x = record { more = x.more; new = x.new; names = x.names; rising = x.rising }
of_marked (LookBehind negated) s q x = record { more = x.more; new = x.new; names = x.names; rising = x.rising }

after_condition : (s r q : Scope) → Named (back_to s r) q → Named r q
after_condition s r q x = record { more = x.more; new = x.new; names = x.names; rising = x.rising }

mutual
  named_branches : {k : ℕ} {s r : Scope} {t after : Text} {bs : List Pattern} → Branches k s t after bs r → Named s r
  named_branches (one p) = named_parts p
  named_branches (either p b) = then (named_parts p) (named_branches b)

  named_parts : {k : ℕ} {s r : Scope} {t after : Text} {ps : List Pattern} → Parts k s t after ps r → Named s r
  named_parts (nothing {s = s} b) = none s
  named_parts (item b f g) = then (named_item f) (named_parts g)

  named_item : {k : ℕ} {s r : Scope} {t after : Text} {x : Option Pattern} → Item k s t after x r → Named s r
  named_item (set {s = s} f) = let x = none s in record { more = x.more; new = x.new; names = x.names; rising = x.rising }
  named_item (bare a e) = named_atom a
  named_item (quantified a e b q) = named_atom a

  named_atom : {k : ℕ} {s r : Scope} {t after : Text} {p : Pattern} → Atom k s t after p r → Named s r
  named_atom (single {s = s} b r) = none s
  named_atom (plain b) = let x = named_branches b in record { more = x.more; new = x.new; names = x.names; rising = x.rising }
  named_atom (flagged f b) = let x = named_branches b in record { more = x.more; new = x.new; names = x.names; rising = x.rising }
  named_atom (unnamed u e b) = let x = named_branches b in record { more = x.more; new = x.new; names = x.names; rising = x.rising }
  named_atom (marked {s = s} {q = q} {how = how} m b) = let x = of_marked how s q (named_branches b) in record { more = x.more; new = x.new; names = x.names; rising = x.rising }
  named_atom (reference {s = s} h) = let x = none s in record { more = x.more; new = x.new; names = x.names; rising = x.rising }
  named_atom (reference_by_name {s = s} n h) = let x = none s in record { more = x.more; new = x.new; names = x.names; rising = x.rising }
  named_atom (tested c h b) = let x = named_branches b in record { more = x.more; new = x.new; names = x.names; rising = x.rising }
  named_atom (decided {s = s} {r = r} {q = q} c h f a b) =
      let y = named_branches b in
      let z = then (named_branches a) (after_condition s r q y) in
      record { more = z.more; new = z.new; names = z.names; rising = z.rising }
  named_atom (capture {s = s} {q = q} u e b) =
      let x = named_branches b in
      record { more = omega (arith, x.more); new = x.new; names = x.names; rising = from_less (s.opened + 1) (s.opened + 1 + 1) (q.opened + 1) x.new (omega arith) x.rising }
  named_atom (named {s = s} {q = q} n m e b) =
      let x = named_branches b in
      record {
        more = omega (arith, x.more);
        new = (n, s.opened + 1) ∷ x.new;
        names = x.names ∙ append_assoc s.names ((n, s.opened + 1) ∷ []) x.new;
        rising = (omega arith, omega (arith, x.more), x.rising);
      }

pub names_rise : (unnamed : Bool) (o : DialectOptions) (text : Text) (p : Pattern) (e : Scope) → Spells (begin unnamed o) text p e → Rising 1 (e.opened + 1) e.names
names_rise u o text p e x = let y = named_branches x.spelled in subst (λ l. Rising 1 (e.opened + 1) l) (sym y.names) y.rising
