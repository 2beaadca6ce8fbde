-- Numbers from their bytes, and products of bounded numbers. Assumes nothing.
use Rattle.std.specs.Prelude.{◌≡◌, List, ℕ, zero, suc, ◌+◌, ◌*◌, ◌≤◌, ◌<◌, get_or}
use Rattle.std.specs.Int.{w16, w32, w64, from_le_bytes}
use Rattle.std.specs.Array.{IsFromFnResultFrom, IsElementAt}
use Rattle.std.specs.Fn.{Called}
use denote.Param.Members.{Mut}
use Rattle.std.proofs.Math.Decide.{ℕ_discrete}
use Rattle.std.proofs.Math.Arith.{lt_of_le-ne}
use Rattle.std.proofs.Math.Logic.{by_cases}
use Rattle.std.proofs.Common.{ap, ◌∙◌, subst, mul-le-mul, arith}
use Rattle.format.specs.Bytes.{le16, le32, le64}

-- A list made by calls of a closure that computes h.
pub made_by : {F : Type 0} {g : Mut F (ℕ × Unit {0}) ℕ} (h : ℕ → ℕ) (p : F) → ((x r : ℕ) (q : F) → Called g p (x, tt) r q → (q ≡ p) × (r ≡ h x))
    → (ys : List ℕ) (n a : ℕ) (f : F) → f ≡ p → IsFromFnResultFrom g f ys a n → (i : ℕ) → a ≤ i → i < a + n → get_or ys i 0 ≡ h i
made_by h p calls ys zero a f e m i l b = absurd (omega arith)
made_by {F = F} {g = g} h p calls ys (suc n) a f e m i l b =
    let first : (m.0 ≡ p) × (m.1 ≡ h a) = calls a m.1 m.0 (subst (λ (k : F). Called g k (a, tt) m.1 m.0) e m.3) in
    by_cases (ℕ_discrete a i)
    (λ q. subst (λ j. get_or ys j 0 ≡ h j) q (m.2.1 0 ∙ first.1))
    (λ q. let past = lt_of_le-ne l q in made_by h p calls ys n (a + 1) m.0 first.0 m.4 i (omega arith) (omega arith))

-- From the bytes v from k on to the number.
module _ (b v : List ℕ) (k : ℕ) where
  -- They are those of b.
  abbrev pub Are : ℕ → Type 0
  Are n = (i : ℕ) → i < n → get_or v i 0 ≡ get_or b (k + i) 0

  at_byte : (n i j : ℕ) → Are n → i < n → k + i ≡ j → get_or v i 0 ≡ get_or b j 0
  at_byte n i j h l e = h i l ∙ ap (λ m. get_or b m 0) e

  pub number16 : (r : ℕ) → Are 2 → r ≡ from_le_bytes w16 v → r ≡ le16 b k
  unfolding le16
  number16 r h e = omega (arith, e, at_byte 2 0 k h (omega arith) (omega arith), h 1 (omega arith))

  pub number32 : (r : ℕ) → Are 4 → r ≡ from_le_bytes w32 v → r ≡ le32 b k
  unfolding le32 le16
  number32 r h e =
      omega (
        arith,
        e,
        at_byte 4 0 k h (omega arith) (omega arith),
        h 1 (omega arith),
        h 2 (omega arith),
        at_byte 4 3 (k + 2 + 1) h (omega arith) (omega arith),
      )

  pub number64 : (r : ℕ) → Are 8 → r ≡ from_le_bytes w64 v → r ≡ le64 b k
  unfolding le64 le32 le16
  number64 r h e =
      omega (
        arith,
        e,
        at_byte 8 0 k h (omega arith) (omega arith),
        h 1 (omega arith),
        h 2 (omega arith),
        at_byte 8 3 (k + 2 + 1) h (omega arith) (omega arith),
        h 4 (omega arith),
        at_byte 8 5 (k + 4 + 1) h (omega arith) (omega arith),
        at_byte 8 6 (k + 4 + 2) h (omega arith) (omega arith),
        at_byte 8 7 (k + 4 + 2 + 1) h (omega arith) (omega arith),
      )

-- A number that lies within the first n bytes, v.
pub number_in : (b v : List ℕ) (n i : ℕ) → Are b v 0 n → i + 1 < n → le16 v i ≡ le16 b i
unfolding le16
number_in b v n i h l = omega (arith, at_byte b v 0 n i i h (omega arith) (omega arith), at_byte b v 0 n (i + 1) (i + 1) h l (omega arith))

-- Two numbers below m have a product below m times m.
pub product_below : (m a b : ℕ) → a < m → b < m → a * b < m * m
product_below zero a b h k = absurd (omega arith)
product_below (suc m) a b h k = let le : a * b ≤ m * m = mul-le-mul (omega arith) (omega arith) in omega arith
