-- Texts whose length stands before them.
use Rattle.std.proofs.Common.{◌≡◌, ℕ, ◌<◌, List, ◌++◌, length, take, drop, refl, sym, ap, ◌∙◌, append_assoc}
use Rattle.std.specs.Int.{Width, to_le_bytes}
use Rattle.std.proofs.lemmas.List.{take_at, drop_at}
use Rattle.field_codec.specs.SpellingsApart.{AreApart}
use Rattle.field_codec.specs.Readers.{number_at}
use Rattle.field_codec.proofs.Readers.{apart}
use Rattle.field_codec.proofs.Counts.{IsWide, number_reads}

-- texts of one length, and what stands behind them
same_front : (a b x y : List ℕ) → length a ≡ length b → a ++ x ≡ b ++ y → (a ≡ b) × (x ≡ y)
same_front a b x y len e =
    (sym (take_at a x (length a) refl) ∙ ap (take (length a)) e ∙ take_at b y (length a) (sym len), sym (drop_at a x (length a) refl) ∙ ap (drop (length a)) e ∙ drop_at b y (length a) (sym len))

-- no such text begins another
pub counted_apart : (w : Width) (limit : ℕ) → IsWide w limit → AreApart (λ t. to_le_bytes w (length t) ++ t) (λ t. length t < limit)
counted_apart w limit wide a b x y fits also e =
    let all : to_le_bytes w (length a) ++ (a ++ x) ≡ to_le_bytes w (length b) ++ (b ++ y) = sym (append_assoc (to_le_bytes w (length a)) a x) ∙ e ∙ append_assoc (to_le_bytes w (length b)) b y in
    let one = apart (to_le_bytes w) (λ n. n < limit) (number_at w) (number_reads w limit wide 0) (length a) (length b) (a ++ x) (b ++ y) fits also all in
    same_front a b x y one.0 one.1
