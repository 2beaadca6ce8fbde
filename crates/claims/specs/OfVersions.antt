-- What is proved of the two versions (document 02, Jobs 4 and 5): a docket of version 1 that passes tests 1 to 8, rewritten in
-- version 2 with no fixed workers, is answered alike where its rules stand in order, and else refused with 14. Statements only;
-- proofs/OfVersions/ proves them.
use Rattle.refusals.specs.Refusal.{refusal}
use Rattle.std.specs.Prelude.{◌≡◌, List, [], ◌∷◌, ℕ, suc, ◌+◌, ◌*◌, length, Err}
use Rattle.theory.specs.Machine.{Call}
use Rattle.format.specs.Format.{header_of, sections, sections_of}
use Rattle.format.specs.declared.Header.{Header}
use Rattle.shape.specs.Shape.{shape_of}
use Rattle.shape.specs.Sound.{InOrder, SoundShape}
use Rattle.checker.specs.Check.{check_of}
use Rattle.machine.specs.Calls.{start_of, pairs_of, terminal_of, verdict_of, reply_of, counts_of}
use Rattle.writer.specs.Write.{docket_of}
use Rattle.claims.specs.OfOrder.{FirstNotAfter}

-- The bytes of states, and behind each two zeros.
unfoldable pub widened : List ℕ → List ℕ
widened [] = []
widened (x ∷ xs) = x ∷ 0 ∷ 0 ∷ widened xs

-- The docket of version 2 with the states of b, of version 1, and its other sections.
abbrev pub in_version2 : List ℕ → Header → List ℕ
in_version2 b h = let x = sections_of b h in docket_of 2 (sections (widened x.states) x.rules x.layers x.nodes x.leaves)

-- The dockets b and d are answered alike, by the check and by every call.
pub record Alike (b d : List ℕ) : Type 0 where
  pub check : check_of d ≡ check_of b
  pub start : (c : List ℕ) → start_of d c ≡ start_of b c
  pub can_act : (c : List ℕ) (r : ℕ) → pairs_of d c r ≡ pairs_of b c r
  pub standstill : (c : List ℕ) → terminal_of d c ≡ terminal_of b c
  pub verdict : (c : List ℕ) → verdict_of d c ≡ verdict_of b c
  pub of_call : (c : List ℕ) (x : Call) → (reply_of d c x ≡ reply_of b c x) × (counts_of d c x ≡ counts_of b c x)

-- The claims about versions.
pub record OfVersions : Type 0 where
  -- The rewritten docket is longer by two bytes for each state.
  pub longer : (b : List ℕ) (h : Header) → SoundShape b h → h.sizes.version ≡ 1 → length (in_version2 b h) ≡ length b + 2 * h.sizes.states
  -- Where the rules stand in order, it passes tests 1 to 8, and is answered alike.
  pub sound : (b : List ℕ) (h : Header) → SoundShape b h → h.sizes.version ≡ 1 → InOrder h.sizes.rules (sections_of b h).rules
      → let d = in_version2 b h in SoundShape d (header_of d)
  pub alike : (b : List ℕ) (h : Header) → SoundShape b h → h.sizes.version ≡ 1 → InOrder h.sizes.rules (sections_of b h).rules
      → Alike b (in_version2 b h)
  -- Where they do not, it is refused with 14, at the first that does not come after the one before it.
  pub out_of_order : (b : List ℕ) (h : Header) → SoundShape b h → h.sizes.version ≡ 1 → (e : ℕ)
      → FirstNotAfter h.sizes.rules (sections_of b h).rules e → shape_of (in_version2 b h) ≡ Err (refusal 14 (suc e))
