-- The code's returns follow the definition of the check. Assumes nothing.
use Rattle.std.specs.Prelude.{◌≡◌, List, ℕ, Result, Ok, Err}
use Rattle.std.proofs.Math.Path.{refl}
use Rattle.std.proofs.Common.{sym, ap, ◌∙◌, subst, arith}
use borrow.Author.Tests.{not-false}
use Rattle.theory.specs.Below.{sum_below}
use Rattle.theory.proofs.Below.Laws.{all_intro}
use Rattle.theory.specs.Judge.{Passes}
use Rattle.theory.proofs.Judge.Laws.{judge-passes}
use Rattle.theory.specs.Ladder.{lowers_at, lowering, handover_at, handover, Laddered, spread}
use Rattle.theory.specs.Tree.{Walked, widest}
use Rattle.format.specs.Format.{header_of, Sections, sections, sections_of, layer_weight, protocol_of, layers_of, tree_of, protocol_in, layers_in, weight_in}
use Rattle.format.specs.declared.Sizes.{Sizes}
use Rattle.format.specs.declared.Header.{Header}
use Rattle.refusals.specs.declared.Refusal.{Refusal}
use Rattle.refusals.specs.Refusal.{refusal}
use Rattle.shape.specs.Shape.{by_shape, shape_of}
use Rattle.shape.specs.declared.sound.Docket.{Docket}
use Rattle.shape.specs.Sound.{SoundShape}
use Rattle.shape.proofs.SoundLaws.{sound_shape, sound_rules, docket_sound}
use Rattle.shape.specs.Code.{SoundRules, header_in}
use Rattle.ladder.specs.Code.Laws.{spreads_are}
use Rattle.tree.specs.Code.{walked_of}
use Rattle.checker.specs.declared.Summary.{Summary}
use Rattle.checker.specs.Check.{certificate_tests, walk_of, summary_of, tree_check, sections_check, check_of}

-- ---- The sections of a docket of sound shape

module _ (b : List ℕ) (h : Header) where
  pub sections_are : (states rules layers nodes leaves : List ℕ) (a : Result Summary Refusal)
      → states ≡ (sections_of b h).states → rules ≡ (sections_of b h).rules → layers ≡ (sections_of b h).layers
      → nodes ≡ (sections_of b h).nodes → leaves ≡ (sections_of b h).leaves
      → a ≡ sections_check h.sizes (sections states rules layers nodes leaves)
      → a ≡ sections_check h.sizes (sections_of b h)
  sections_are states rules layers nodes leaves a es er el en ek e = rw (es, er, el, en, ek) at e

  pub rules_sound : (rules : List ℕ) → rules ≡ (sections_of b h).rules → SoundShape b h → SoundRules h.sizes rules
  rules_sound rules er sound = rw er (sound_rules b h sound)

-- ---- Tests 12 and 13

-- The walk v of the code stands for x.
module _ (f : Summary) (x : Walked) (v : Result ℕ Refusal) (e : walked_of v ≡ x) (a : Result Summary Refusal) where
  pub walk_refused : (r : Refusal) → v ≡ Err r → a ≡ Err r → a ≡ tree_check f x
  walk_refused r u g = g ∙ ap (tree_check f) (sym (ap walked_of u) ∙ e)

  pub walk_accepted : (j : ℕ) → v ≡ Ok j → a ≡ Ok f → a ≡ tree_check f x
  walk_accepted j u g = g ∙ ap (tree_check f) (sym (ap walked_of u) ∙ e)

pub summary_is : (z : Sizes) (x : Sections) (s m : ℕ) (a : Result Summary Refusal)
    → s ≡ sum_below z.layers (λ l. spread z.states (layer_weight z.states x.layers l)) → m ≡ widest (tree_of z x.nodes)
    → a ≡ Ok (record { states = z.states; rules = z.rules; layers = z.layers; nodes = z.nodes; spreads = s; widest = m })
    → a ≡ Ok (summary_of z x)
summary_is z x s m a p q g =
    let w = layer_weight z.states x.layers in
    g ∙ rw (spreads_are (protocol_of z x.states x.rules) (layers_of z x.rules) w s p, q)

-- ---- What an accepted docket is

pub refused_not_accepted : {r : Refusal} {f : Summary} → Err r ≡ Ok f → ⊥
refused_not_accepted {r} {f} e = let z : ◌≡◌ {A = ℕ} 0 1 = cc in omega arith

-- Tests 9 to 11 pass.
pub accepted_tests : (z : Sizes) (x : Sections) (f : Summary) → sections_check z x ≡ Ok f → Passes (certificate_tests z x)
unfolding sections_check
accepted_tests z x f e =
    judge-passes (λ n k. Err (refusal n k)) (tree_check (summary_of z x) (walk_of z x)) (Ok f) (λ n k. refused_not_accepted) (certificate_tests z x) e

module _ (b : List ℕ) where
  -- Its shape is sound, and tests 9 to 13 are passed.
  pub accepted_shape : (f : Summary) → check_of b ≡ Ok f → (h : Header) × SoundShape b h × (sections_check h.sizes (sections_of b h) ≡ Ok f)
  unfolding check_of
  accepted_shape f e = go (shape_of b) refl e
    where
      go : (s : Result Header Refusal) → shape_of b ≡ s → by_shape Err (λ k. sections_check k.sizes (sections_of b k)) s ≡ Ok f
          → (h : Header) × SoundShape b h × (sections_check h.sizes (sections_of b h) ≡ Ok f)
      go (Ok h) u g = (h, sound_shape b h u, g)
      go (Err r) u g = absurd (refused_not_accepted g)

  -- Its ladder passes.
  pub passes_laddered : (h : Header) → SoundShape b h → Passes (certificate_tests h.sizes (sections_of b h))
      → Laddered (protocol_in b h) (layers_in b h) (weight_in b h)
  unfolding lowering handover
  passes_laddered h sound p = record {
    formed = sound.sections.formed;
    partition = sound.sections.partition;
    lowering_passes = all_intro _ (lowers_at (protocol_in b h) (layers_in b h) (weight_in b h)) (λ r l. not-false _ (p.0 r l));
    handover_passes = all_intro _ (handover_at (protocol_in b h) (layers_in b h)) (λ s l. not-false _ (p.1.0 s l));
  }

-- What a function is told whose docket passes tests 9 to 13.
pub certified_laddered : (d : Docket) (a : Result Summary Refusal) (f : Summary) → a ≡ sections_check d.header.sizes (sections_of d.bytes.now d.header) → a ≡ Ok f
    → Laddered (protocol_in d.bytes.now d.header) (layers_in d.bytes.now d.header) (weight_in d.bytes.now d.header)
certified_laddered d a f e u =
    passes_laddered d.bytes.now d.header (docket_sound d)
    (accepted_tests d.header.sizes (sections_of d.bytes.now d.header) f (sym e ∙ u))

-- What the check says of the bytes of such a docket.
pub certified_check : (d : Docket) (b : List ℕ) (a : Result Summary Refusal) → a ≡ sections_check d.header.sizes (sections_of d.bytes.now d.header)
    → d.bytes.now ≡ b → check_of b ≡ a
unfolding check_of
certified_check d b a e q = rw (← q) (ap (by_shape Err (λ h. sections_check h.sizes (sections_of d.bytes.now h))) d.sound ∙ sym e)

-- What it says of bytes that do not pass tests 1 to 8.
pub refused_check : (b : List ℕ) (s : Result Docket Refusal) (r : Refusal) → header_in s ≡ shape_of b → s ≡ Err r → check_of b ≡ Err r
unfolding check_of
refused_check b s r e u = ap (by_shape Err (λ h. sections_check h.sizes (sections_of b h))) (sym e ∙ ap header_in u)
