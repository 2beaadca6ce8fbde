-- A refusal of the check is the first test that fits, at its lowest place. Assumes nothing.
use Rattle.std.specs.Prelude.{Result}
use Rattle.refusals.specs.declared.Refusal.{Refusal}
use Rattle.refusals.specs.Refusal.{refusal}
use Rattle.std.specs.Prelude.{◌≡◌, List, ◌↔◌, ◌⊎◌, ℕ, Ok, Err}
use Rattle.std.proofs.Math.Path.{sym}
use Rattle.std.proofs.Common.{ap, ◌∙◌, inl, inr, ⊎_elim}
use Rattle.theory.specs.Judge.{judge, Passes, FirstFits}
use Rattle.theory.proofs.Judge.Laws.{judge_map, judge-append, passes-judge, refused_by, fits_refuses}
use Rattle.theory.specs.Tree.{Walked, next, refused}
use Rattle.theory.specs.Subtree.{TreeFails}
use Rattle.theory.proofs.Claims.Proved.{theorems}
use Rattle.format.specs.Format.{header_of, sections_of, protocol_in}
use Rattle.shape.specs.Shape.{shape_tests, header_shape, shape_of, by_shape}
use Rattle.checker.specs.Check.{certificate_tests, walk_of, summary_of, tree_check, sections_check, check_of}
use Rattle.checker.specs.Check.Laws.{refused_not_accepted}
use Rattle.checker.specs.declared.Summary.{Summary}
use Rattle.claims.specs.OfDocket.{tree_in, assumed, tests_in}

-- The check's refusal by number n at place k.
abbrev pub refuse : ℕ → ℕ → Result Summary Refusal
refuse n k = Err (refusal n k)

abbrev number_in : Result Summary Refusal → ℕ
number_in (Ok f) = 0
number_in (Err r) = r.number

abbrev place_in : Result Summary Refusal → ℕ
place_in (Ok f) = 0
place_in (Err r) = r.place

pub tells : (n k m j : ℕ) → refuse n k ≡ refuse m j → (n ≡ m) × (k ≡ j)
tells n k m j e = (ap number_in e, ap place_in e)

pub walk_refused : (f : Summary) (a : Walked) (n k : ℕ) → tree_check f a ≡ refuse n k → a ≡ refused n k
walk_refused f (next j) n k e = absurd (refused_not_accepted (sym e))
walk_refused f (refused m i) n k e = let s = tells m i n k e in ap (λ x. refused x i) s.0 ∙ ap (refused n) s.1

module _ (b : List ℕ) where
  -- What follows tests 1 to 11.
  abbrev end : Result Summary Refusal
  end = let h = header_of b in let x = sections_of b h in tree_check (summary_of h.sizes x) (walk_of h.sizes x)

  -- The check is one list of tests, and then the walk.
  check_judges : check_of b ≡ judge refuse end (tests_in b (header_of b))
  unfolding check_of shape_of header_shape sections_check
  check_judges =
      let h = header_of b in
      judge_map (by_shape Err (λ k. sections_check k.sizes (sections_of b k))) (λ n k. Err (refusal n k)) (Ok h) (shape_tests b h)
      ∙ sym (judge-append refuse end (shape_tests b h) (certificate_tests h.sizes (sections_of b h)))

  pub refusal_is : (n k : ℕ) → let h = header_of b in
      (check_of b ≡ refuse n k)
      ↔ (FirstFits (tests_in b h) n k ⊎ (Passes (tests_in b h) × TreeFails (protocol_in b h) (assumed b h) (tree_in b h) n k))
  refusal_is n k =
      let h = header_of b in
      let f = summary_of h.sizes (sections_of b h) in
      let tree = (theorems (protocol_in b h)).tree_fails (assumed b h) (tree_in b h) n k in (
        λ e.
            ⊎_elim inl (λ p. inr (p.0, tree.0 (walk_refused f _ n k p.1)))
            (refused_by refuse end tells (tests_in b h) n k (sym check_judges ∙ e)),
        ⊎_elim
            (λ g. check_judges ∙ fits_refuses refuse end (tests_in b h) n k g)
            (λ p. check_judges ∙ passes-judge refuse end (tests_in b h) p.0 ∙ ap (tree_check f) (tree.1 p.1)),
      )
