-- Parts of a buffer, and what is made of each. Assumes nothing.
use Rattle.std.specs.Prelude.{◌≡◌, refl, List, ◌++◌, length, take, drop}
use Rattle.std.proofs.Math.Path.{sym, ap}
use Rattle.std.proofs.Common.{◌∙◌, subst, zero-mul, suc-mul, mul-le-mul_right, div-mul-le_self, arith, length-take-le, drop_at, take-add}
use Rattle.std.proofs.Math.Logic.{by_cases}
use Prim.Native.Nat.{ℕ, zero, suc, ◌+◌, ◌*◌, ◌/◌, ◌≤◌, ◌<◌}
use Rattle.std.proofs.Math.Decide.{dec_lt}
use Rattle.std.proofs.Math.ListN.{length-append, length-drop}
use Rattle.std.proofs.Math.Seq.{take_all, take-append-le}
use Rattle.std.proofs.lemmas.List.{drop-append-le}
use Rattle.page.specs.Page.{part_at, each_part}

-- One part more: where it ends.
pub part_end : (n g : ℕ) → suc g * n ≡ g * n + n
part_end n g = suc-mul g n

-- A part that is among k parts ends within them.
part_before : (n k g : ℕ) → g < k → g * n + n ≤ k * n
part_before n k g l = omega (arith, part_end n g, mul-le-mul_right n l)

-- Each part below the number of whole parts is within the buffer.
pub part_within : (n k g : ℕ) → g < k / n → g * n + n ≤ k
part_within n k g l = omega (arith, part_before n (k / n) g l, div-mul-le_self k n)

pub part_length : (n : ℕ) (c : List ℕ) (g : ℕ) → g * n + n ≤ length c → length (part_at n c g) ≡ n
part_length n c g l = length-take-le n (drop (g * n) c) (omega (arith, length-drop (g * n) c))

-- f makes parts of m numbers of parts of n numbers.
module _ (f : List ℕ → List ℕ) (m n : ℕ) (c : List ℕ) (long : (d : List ℕ) → length d ≡ n → length (f d) ≡ m) where
  -- What is made of part g.
  made-length : (g : ℕ) → suc g * n ≤ length c → length (f (part_at n c g)) ≡ m
  made-length g l = long (part_at n c g) (part_length n c g (omega (arith, part_end n g)))

  pub each-length : (g : ℕ) → g * n ≤ length c → length (each_part f n c g) ≡ g * m
  unfolding each_part
  each-length zero l = sym (zero-mul m)
  each-length (suc g) l =
      length-append (each_part f n c g) (f (part_at n c g))
      ∙ omega (arith, part_end n g, part_end m g, each-length g (omega (arith, part_end n g)), made-length g l)

  -- One part more leaves the parts before it, and is the last.
  module _ (k : ℕ) (l : suc k * n ≤ length c) where
    front : k * n ≤ length c
    front = omega (arith, part_end n k)

    part_earlier : (g : ℕ) → g < k → part_at m (each_part f n c (suc k)) g ≡ part_at m (each_part f n c k) g
    unfolding each_part
    part_earlier g i =
        let inside = part_before m k g i in
        let size = each-length k front in
        ap (take m) (drop-append-le (g * m) (each_part f n c k) (f (part_at n c k)) (omega (arith, size)))
        ∙ take-append-le m (drop (g * m) (each_part f n c k)) (f (part_at n c k)) (omega (arith, size, length-drop (g * m) (each_part f n c k)))

    part_last : part_at m (each_part f n c (suc k)) k ≡ f (part_at n c k)
    unfolding each_part
    part_last =
        ap (take m) (drop_at (each_part f n c k) (f (part_at n c k)) (k * m) (each-length k front))
        ∙ take_all m (f (part_at n c k)) (omega (arith, made-length k l))

  -- Part g of what is made is what f makes of part g.
  pub part_of_each : (k g : ℕ) → g < k → k * n ≤ length c → part_at m (each_part f n c k) g ≡ f (part_at n c g)
  part_of_each zero g h l = absurd (omega arith)
  part_of_each (suc k) g h l =
      by_cases (dec_lt g k)
      (λ i. part_earlier k l g i ∙ part_of_each k g i (front k l))
      (λ no. subst (λ j. part_at m (each_part f n c (suc k)) j ≡ f (part_at n c j)) (let e : k ≡ g = omega arith in e) (part_last k l))

-- Two lists of parts, made in two ways, are equal where their parts are.
each_same : (f f' : List ℕ → List ℕ) (n n' : ℕ) (c c' : List ℕ) (k : ℕ) → ((g : ℕ) → g < k → f (part_at n c g) ≡ f' (part_at n' c' g))
    → each_part f n c k ≡ each_part f' n' c' k
unfolding each_part
each_same f f' n n' c c' zero same = refl
each_same f f' n n' c c' (suc k) same =
    ap (λ x. x ++ f (part_at n c k)) (each_same f f' n n' c c' k (λ g l. same g (omega arith))) ∙ ap (λ x. each_part f' n' c' k ++ x) (same k (omega arith))

-- The parts themselves, behind each other, are the buffer.
each_self : (m : ℕ) (d : List ℕ) (k : ℕ) → each_part (λ x. x) m d k ≡ take (k * m) d
unfolding each_part
each_self m d zero = sym (ap (λ j. take j d) (zero-mul m))
each_self m d (suc k) =
    ap (λ x. x ++ part_at m d k) (each_self m d k) ∙ sym (take-add (k * m) m d) ∙ ap (λ j. take j d) (sym (part_end m k))

-- A buffer of k parts whose parts are what f makes is the list of these.
pub parts-only : (f : List ℕ → List ℕ) (m n : ℕ) (c d : List ℕ) (k : ℕ) → length d ≡ k * m → ((g : ℕ) → g < k → part_at m d g ≡ f (part_at n c g))
    → d ≡ each_part f n c k
parts-only f m n c d k size same = sym (take_all (k * m) d (omega (arith, size))) ∙ sym (each_self m d k) ∙ each_same (λ x. x) f m n d c k same
