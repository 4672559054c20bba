-- What matches a text piece by piece, by the piece that stands first.
use Rattle.std.proofs.Common.{◌≡◌, ℕ, zero, suc, ◌-◌, List, [], ◌∷◌, drop, Option, Some, None, refl, ap, ◌∙◌, arith}
use Rattle.std.specs.Char.{len_utf8}
use Rattle.std.proofs.lemmas.Str.{len_utf8_bounds}
use Rattle.fancy_input.specs.Places.{char_at}
use Rattle.fancy_meaning.specs.Context.{Context, past_item, past_byte, option_to}
use Rattle.fancy_meaning.specs.Backreference.{shares_folding, Piece, piece_of, bytes_after_first, cut_after, cut, past_pieces, past_characters}

-- what is cut after some bytes is what they leave, cut
cut_drop : (text : List ℕ) (n : ℕ) → cut_after text n ≡ cut (drop n text)
unfolding cut_after
cut_drop [] zero = refl
cut_drop [] (suc n) = refl
cut_drop (b ∷ bs) zero = refl
cut_drop (b ∷ bs) (suc n) = cut_drop bs n

cut_past_character : (b c : ℕ) (bs : List ℕ) → cut_after bs (len_utf8 c - 1) ≡ cut (drop (len_utf8 c) (b ∷ bs))
cut_past_character b c bs =
    let some : suc (len_utf8 c - 1) ≡ len_utf8 c = omega (arith, (len_utf8_bounds c).0) in
    cut_drop bs (len_utf8 c - 1) ∙ ap (λ (n : ℕ). cut (drop n (b ∷ bs))) some

pub past_nothing : (x : Context) (p : ℕ) → past_characters x [] p ≡ Some p
unfolding cut_after past_pieces past_characters
past_nothing x p = refl

-- a text is matched by its first character, or by its first byte where none begins there, and then by the rest
pub past_first : (x : Context) (b : ℕ) (bs : List ℕ) (p : ℕ) → past_characters x (b ∷ bs) p
    ≡ option_to (char_at (b ∷ bs) 0) (option_to (past_byte x b p) None (λ r. past_characters x bs r))
    (λ c. option_to (past_item x (shares_folding c) p) None (λ r. past_characters x (drop (len_utf8 c) (b ∷ bs)) r))
unfolding cut_after past_pieces past_characters
past_first x b bs p = go (char_at (b ∷ bs) 0)
  where
    go : (o : Option ℕ) → past_pieces x (piece_of b o ∷ cut_after bs (bytes_after_first (piece_of b o))) p
        ≡ option_to o (option_to (past_byte x b p) None (λ r. past_characters x bs r))
        (λ c. option_to (past_item x (shares_folding c) p) None (λ r. past_characters x (drop (len_utf8 c) (b ∷ bs)) r))
    go None = refl
    go (Some c) = ap (λ (pieces : List Piece). option_to (past_item x (shares_folding c) p) None (λ r. past_pieces x pieces r)) (cut_past_character b c bs)
