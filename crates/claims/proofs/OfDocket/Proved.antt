-- The claims about a docket are proved. Assumes nothing.
use Rattle.std.proofs.Common.{subst, arith, ne_eqb}
use Rattle.std.specs.Prelude.{List, ℕ}
use Rattle.theory.proofs.Claims.Proved.{theorems}
use Rattle.format.specs.Format.{header_of, sections_of, protocol_in, weight_in, weights_of}
use Rattle.claims.specs.OfDocket.{Rules, IsAccepted, OfDocket}
use Rattle.claims.proofs.OfDocket.Exact.{certified, laddered, demand_2}
use Rattle.claims.proofs.OfDocket.Says.{demand_1}
use Rattle.claims.proofs.OfDocket.Codes.{codes_tell}
use Rattle.claims.proofs.OfDocket.Weights.{weight_is, weight_within}
use Rattle.claims.proofs.OfDocket.Lists.{calls_on, demand_3, calls_fail}

module _ (b : List ℕ) (a : IsAccepted b) where
  -- The header of an accepted docket is what its first bytes say.
  keeps : Rules b (header_of b)
  keeps = let k = (demand_2 b).exact.0 a in subst (Rules b) k.1.shape.header k.1

pub of_docket : (b : List ℕ) → OfDocket b
of_docket b = record {
  demand_1 = demand_1 b;
  demand_2 = demand_2 b;
  demand_3 = λ a. demand_3 b (header_of b) (keeps b a);
  codes_tell = codes_tell b;
  calls_on_sound = calls_on b;
  calls_on_others = calls_fail b;
  ws³ = λ a. (theorems (protocol_in b (header_of b))).ws³ (certified b (header_of b) (keeps b a));
  ws² = λ a. (theorems (protocol_in b (header_of b))).ws² (certified b (header_of b) (keeps b a));
  layered_by = λ a. ((theorems (protocol_in b (header_of b))).of_ladder (laddered b (header_of b) (keeps b a))).layered_by;
  definitions = λ h sound. (theorems (protocol_in b h)).as_published sound.sections.formed;
  version_1 = λ h e s l. rw (ne_eqb h.sizes.version 2 (λ d. omega arith));
  layer_words = λ h sound. (theorems (protocol_in b h)).layers_are sound.sections.formed sound.sections.partition (weight_in b h);
  weight_is = weight_is;
  weight_within = weight_within;
  leaf_rule = λ h F l. (theorems (protocol_in b h)).leaf_is F (weights_of h.sizes (sections_of b h).leaves l);
  remainder_rule = λ h F m l. (theorems (protocol_in b h)).remainder_is m F (weights_of h.sizes (sections_of b h).leaves l);
}
