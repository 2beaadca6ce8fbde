-- A docket that is refused by 10 points at the lowest rule at which some group breaks the handover. Assumes nothing.
use Rattle.refusals.specs.declared.Refusal.{Refusal}
use Rattle.std.specs.Prelude.{◌≡◌, refl, true, List, [], ◌∷◌, ℕ, ◌<◌, Result, Ok, Err}
use Rattle.std.proofs.Common.{sym, ap, ◌∙◌, subst, true≢false, ⊎_elim, arith}
use Rattle.std.proofs.lemmas.Bool.{not-true, not-false}
use Rattle.theory.proofs.Judge.Laws.{refused_by, fits-here, fits_past, fits_other}
use Rattle.theory.specs.Ladder.{Broken}
use Rattle.theory.proofs.Ladder.Handover.{handover_at_fails, handover_at_exact}
use Rattle.theory.proofs.Subtree.Laws.{number_12_13}
use Rattle.theory.proofs.Claims.Proved.{theorems}
use Rattle.format.specs.Format.{header_of, sections_of, protocol_in, layers_in}
use Rattle.format.specs.declared.Header.{Header}
use Rattle.shape.specs.Shape.{by_shape, shape_of}
use Rattle.shape.specs.Sound.{SoundShape}
use Rattle.shape.proofs.SoundLaws.{sound_shape}
use Rattle.checker.specs.Check.{walk_of, summary_of, tree_check, sections_check, check_of}
use Rattle.claims.specs.OfDocket.{tree_in, assumed}
use Rattle.claims.proofs.OfDocket.Refusals.{refuse, tells, walk_refused}
use Rattle.claims.proofs.OfDocket.Numbers.{is_one_of, shape_numbers, shape_number, check_number, shape_number_lem}

-- Some group breaks the handover at rule s, and none at a lower one.
abbrev Lowest : List ℕ → Header → ℕ → Type 0
Lowest b h s = Broken (protocol_in b h) (layers_in b h) s × ((u : ℕ) → u < s → Broken (protocol_in b h) (layers_in b h) u → ⊥)

certificate_10 : (b : List ℕ) (h : Header) (s : ℕ) → SoundShape b h → sections_check h.sizes (sections_of b h) ≡ refuse 10 s → Lowest b h s
unfolding sections_check
certificate_10 b h s sound e =
    let x = sections_of b h in
    let P = protocol_in b h in
    let L = layers_in b h in
    let formed = sound.sections.formed in
    ⊎_elim
    (λ f.
    let g = fits-here _ _ 10 s (fits_other _ 10 s refl) (fits_past (_ ∷ []) _ 10 s refl f).1 in (
      handover_at_fails P L formed s g.1 (not-true _ g.2),
      λ u l. (handover_at_exact P L formed u (omega (arith, g.1))).0 (not-false _ (g.3 u l)),
    ))
    (λ p.
    let f = ((theorems P).tree_fails (assumed b h) (tree_in b h) 10 s).0 (walk_refused (summary_of h.sizes x) (walk_of h.sizes x) 10 s p.1) in
    absurd (⊎_elim (λ q. omega arith) (λ q. omega arith) (number_12_13 P (assumed b h) (tree_in b h) 10 s f)))
    (refused_by refuse (tree_check (summary_of h.sizes x) (walk_of h.sizes x)) tells _ 10 s e)

pub refused_by_10 : (b : List ℕ) (s : ℕ) → check_of b ≡ refuse 10 s → Lowest b (header_of b) s
unfolding check_of is_one_of
refused_by_10 b s e = go (shape_of b) refl (shape_number_lem b) e
  where
    go : (a : Result Header Refusal) → shape_of b ≡ a → is_one_of (shape_number a) shape_numbers ≡ true
        → by_shape Err (λ k. sections_check k.sizes (sections_of b k)) a ≡ refuse 10 s → Lowest b (header_of b) s
    go (Ok h) u p g = let sound = sound_shape b h u in subst (λ i. Lowest b i s) sound.header (certificate_10 b h s sound g)
    go (Err r) u p g = absurd (true≢false (sym p ∙ ap (λ a. is_one_of (check_number a) shape_numbers) g))
