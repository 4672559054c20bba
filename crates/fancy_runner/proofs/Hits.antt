-- What the code gives from a pair of an instruction and a place: the captures and the kept start change neither how much it is nor whether it is accepted.
use Rattle.std.proofs.Common.{◌≡◌, Bool, true, false, List, [], ◌∷◌, Option, Some, None, refl, subst}
use Rattle.std.specs.Prelude.{is_some, if◌then◌else◌}
use Rattle.fancy_meaning.specs.Context.{State}
use Rattle.fancy_code.specs.Run.{Raw, Note, Stop, Sign, choice_opened, returned, fetched, erase}
use Rattle.fancy_code.specs.Thread.{first_accepted, events_of, size_of}
use Rattle.fancy_code.proofs.EasyCode.{Alike, BothAlike, alike_length}

-- so the number of events is the pair's alone
pub both_size : (o p : Option (List Raw)) → BothAlike o p → size_of o ≡ size_of p
both_size None None f = refl
both_size None (Some x) f = absurd f
both_size (Some w) None f = absurd f
both_size (Some w) (Some x) f = alike_length w x f

module _ (ok : State → Bool) (by_place : (s r : State) → s.place ≡ r.place → ok s ≡ ok r) where
  hit_if : (c d : Bool) (s r : State) (o p : Option State) → c ≡ d → is_some o ≡ is_some p → is_some (if c then Some s else o) ≡ is_some (if d then Some r else p)
  hit_if c d s r o p e h = subst (λ (x : Bool). is_some (if c then Some s else o) ≡ is_some (if x then Some r else p)) e (same c) where
    same : (x : Bool) → is_some (if x then Some s else o) ≡ is_some (if x then Some r else p)
    same true = refl
    same false = h

  hit_note : (m n : Sign) (w x : List Raw) → m ≡ n → is_some (first_accepted ok (erase w)) ≡ is_some (first_accepted ok (erase x))
      → is_some (first_accepted ok (erase (Note m ∷ w))) ≡ is_some (first_accepted ok (erase (Note n ∷ x)))
  hit_note m n w x e h = subst (λ (k : Sign). is_some (first_accepted ok (erase (Note m ∷ w))) ≡ is_some (first_accepted ok (erase (Note k ∷ x)))) e (same m) where
    same : (k : Sign) → is_some (first_accepted ok (erase (Note k ∷ w))) ≡ is_some (first_accepted ok (erase (Note k ∷ x)))
    same choice_opened = h
    same returned = h
    same fetched = h

  alike_hits : (w x : List Raw) → Alike w x → is_some (first_accepted ok (erase w)) ≡ is_some (first_accepted ok (erase x))
  alike_hits [] [] f = refl
  alike_hits [] (e ∷ x) f = absurd f
  alike_hits (e ∷ w) [] f = absurd f
  alike_hits (Note m ∷ w) (Note n ∷ x) f = hit_note m n w x f.0 (alike_hits w x f.1)
  alike_hits (Note m ∷ w) (Stop q s v ∷ x) f = absurd f
  alike_hits (Stop q s v ∷ w) (Note m ∷ x) f = absurd f
  alike_hits (Stop q s v ∷ w) (Stop p r u ∷ x) f = hit_if (ok s) (ok r) s r _ _ (by_place s r f.0) (alike_hits w x f.1)

  -- and so is whether an accepted outcome comes
  pub both_hits : (o p : Option (List Raw)) → BothAlike o p → is_some (first_accepted ok (events_of o)) ≡ is_some (first_accepted ok (events_of p))
  both_hits None None f = refl
  both_hits None (Some x) f = absurd f
  both_hits (Some w) None f = absurd f
  both_hits (Some w) (Some x) f = alike_hits w x f
