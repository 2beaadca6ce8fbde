-- The samples P1 to P12 of document 01, and samples of document 02, by computation on the bytes.
use Rattle.std.specs.Prelude.{◌≡◌, refl, true, List, [], ◌∷◌, ◌++◌, ℕ, ◌≤◌, ltb, length, get_or, drop, replicate}
use Rattle.std.proofs.Common.{subst, arith}
use Rattle.theory.specs.Below.{all_below}
use Rattle.theory.specs.Protocol.{Start}
use Rattle.theory.specs.Machine.{admitted}
use Rattle.theory.proofs.Unfold.{walking, claiming, calling, starting}
use Rattle.format.specs.Format.{header_of, sections_of, protocol_in}
use Rattle.format.specs.declared.Header.{Header}
use Rattle.format.specs.Samples.{broadcast, majority, two_outcomes, parity, seeded, quorum}
use Rattle.shape.specs.Samples.{shaping}
use Rattle.shape.specs.Sound.{SoundShape}
use Rattle.leaf.specs.Leaf.{bad_leaf}
use Rattle.checker.specs.Check.{sections_check, check_of}
use Rattle.writer.specs.Write.{output_of}
use Rattle.writer.proofs.WriteLaws.{bytes_are}
use Rattle.writer.specs.Samples.{writing, parts}
use Rattle.machine.specs.Calls.{start_answer, start_of, pairs_answer, pairs_of, verdict_answer, verdict_of, reply_of, counts_of}
use Rattle.page.specs.Page.{each_part, page_of, counts_after_page, results_after_page}
use Rattle.totals.specs.Totals.{steps_to_rest, rests_on, resting_on, steps_at, first_most, sheet_in, sheet_of}
use Rattle.sheetshape.specs.SheetShape.{bad_sheet_leaf, sheet_fault}
use Rattle.sheet.specs.Samples.{broadcast_sheet, quorum_sheet}
use Rattle.sheet.specs.Sheet.{sheet_check, check_sheet_of}
use Rattle.claims.specs.OfDocket.{Rules, Demand3}
use Rattle.claims.specs.OfWriter.{Readable, Wrote}
use Rattle.claims.specs.OfVersions.{widened, in_version2}
use Rattle.claims.specs.OfOrder.{RulesAmong, SoundVersion2}
use Rattle.claims.specs.OfPairs.{PairsTell}
use Rattle.claims.specs.OfPage.{PagesSettle}
use Rattle.claims.specs.OfTotals.{TotalsAre}
use Rattle.claims.specs.OfSheet.{Decides}
use Rattle.claims.proofs.Claims.Proved.{claims}
use Rattle.claims.proofs.Dockets.OneLayer.{one_layer_lem}
use Rattle.claims.specs.Samples.{AllHold, samples, requested, with_fixed, fixed_starts, rules_in_order, pairs_counted, pages_run, sheets_counted, sheets_claimed}

-- The names that samples unfold.
unfoldable sampling : ℕ
unfolding writing shaping walking calling widened bad_leaf sections_check check_of reply_of counts_of verdict_of verdict_answer start_of start_answer
    pairs_of pairs_answer each_part page_of counts_after_page results_after_page starting steps_to_rest rests_on resting_on steps_at first_most sheet_in sheet_of
    claiming bad_sheet_leaf sheet_fault sheet_check check_sheet_of
sampling = 0

pub samples_hold : AllHold samples
unfolding sampling
samples_hold = (refl, (refl, (refl, (refl, (refl, (refl, (refl, ((refl, refl, refl), ((refl, refl, refl), (refl, (one_layer_lem, (refl, (refl, tt)))))))))))))

pub requested_hold : AllHold requested
unfolding sampling
requested_hold = (refl, (refl, (refl, (refl, (refl, (refl, (refl, (refl, ((refl, refl), ((refl, refl), ((refl, refl), tt)))))))))))

pub fixed_hold : AllHold with_fixed
unfolding sampling
fixed_hold = (refl, (refl, (refl, (refl, (refl, (refl, (refl, (refl, (refl, (refl, ((refl, refl), ((refl, refl), tt))))))))))))

pub starts_hold : AllHold fixed_starts
unfolding sampling
starts_hold = (refl, (refl, (refl, (refl, (refl, (refl, (refl, tt)))))))

pub order_holds : AllHold rules_in_order
unfolding sampling
order_holds = (refl, (refl, (refl, (refl, (refl, (refl, ((refl, refl), ((refl, refl), tt))))))))

pub pairs_hold : AllHold pairs_counted
unfolding sampling
pairs_hold = (refl, (refl, (refl, (refl, (refl, (refl, (refl, (refl, (refl, (refl, (refl, (refl, (refl, tt)))))))))))))

pub pages_hold : AllHold pages_run
unfolding sampling
pages_hold = (
  (refl, refl, refl),
  (
    (refl, refl, refl),
    (
      (refl, refl, refl),
      (
        (refl, refl, refl),
        (
          (refl, refl, refl),
          (
            (refl, refl, refl),
            (
              (refl, refl, refl),
              ((refl, refl, refl), tt),
            ),
          ),
        ),
      ),
    ),
  ),
)

pub sheets_hold : AllHold sheets_counted
unfolding sampling
sheets_hold = (
  (refl, refl),
  ((refl, refl), ((refl, refl), ((refl, refl), ((refl, refl), ((refl, refl), ((refl, refl), ((refl, refl), ((refl, refl), tt)))))))),
)

pub claims_hold : AllHold sheets_claimed
unfolding sampling
claims_hold = (refl, (refl, (refl, (refl, (refl, (refl, (refl, (refl, (refl, (refl, (refl, (refl, (refl, tt)))))))))))))

-- So demand 3 holds of a docket in which a pair has two outcomes: what it says of rest and verdict is not empty there.
pub outcomes_settle : (c : List ℕ) → Demand3 two_outcomes (header_of two_outcomes) c
outcomes_settle = (claims.of_docket two_outcomes).demand_3 (_, requested_hold.0)

-- And of a docket whose tree has a node of kind 7.
pub parity_settles : (c : List ℕ) → Demand3 parity (header_of parity) c
parity_settles = (claims.of_docket parity).demand_3 (_, requested_hold.1.1.0)

-- And of a docket of version 2 that is accepted for its fixed agents.
pub seeded_settles : (c : List ℕ) → Demand3 seeded (header_of seeded) c
seeded_settles = (claims.of_docket seeded).demand_3 (_, fixed_hold.0)

-- What the writer wrote in the sample reads as the sections of broadcast.
pub broadcast_reads : Wrote 1 (parts broadcast) (replicate 101 170) 99
broadcast_reads = claims.of_writer.writes 1 (parts broadcast) (replicate 101 170) 99 requested_hold.1.1.1.1.1.1.1.1.0.0

broadcast-below : all_below (length broadcast) (λ k. ltb (get_or broadcast k 0) 256) ≡ true
unfolding sampling
broadcast-below = refl

-- Broadcast is accepted, so its sections are written as its bytes into every output that has room for them, and it is accepted
-- in version 2 too.
broadcast-keeps : Rules broadcast (header_of broadcast)
broadcast-keeps =
    let rules = ((claims.of_docket broadcast).demand_2.exact.0 (_, samples_hold.0)).1 in
    subst (Rules broadcast) rules.shape.header rules

pub broadcast-again : (out : List ℕ) → 99 ≤ length out → output_of 1 (parts broadcast) out ≡ broadcast ++ drop 99 out
unfolding shaping
broadcast-again out fits =
    let readable : Readable broadcast (header_of broadcast) = record { shape = broadcast-keeps.shape; leaf_weights = broadcast-keeps.leaf_weights } in
    (claims.of_writer.writes_again broadcast (bytes_are broadcast broadcast-below) (header_of broadcast) readable out fits).1

pub broadcast_in_2 : check_of (in_version2 broadcast (header_of broadcast)) ≡ check_of broadcast
unfolding shaping
broadcast_in_2 = (claims.of_versions.alike broadcast (header_of broadcast) broadcast-keeps.shape refl (λ r l. absurd (omega arith))).check

-- Every docket of version 2 with the rules of parity with fixed agents has the bytes of its rules.
seeded_sound : SoundVersion2 seeded (header_of seeded)
unfolding shaping
seeded_sound =
    let rules = ((claims.of_docket seeded).demand_2.exact.0 (_, fixed_hold.0)).1 in
    record { shape = subst (SoundShape seeded) rules.shape.header rules.shape; version = refl }

pub seeded_order : (d : List ℕ) (k : Header) → SoundVersion2 d k → RulesAmong d k seeded (header_of seeded)
    → RulesAmong seeded (header_of seeded) d k → (sections_of d k).rules ≡ (sections_of seeded (header_of seeded)).rules
seeded_order d k g = claims.of_order.one_order d seeded k (header_of seeded) g seeded_sound

-- What is said of the number of pairs holds of parity, on all counts that pass.
parity_sound : SoundShape parity (header_of parity)
parity_sound =
    let rules = ((claims.of_docket parity).demand_2.exact.0 (_, requested_hold.1.1.0)).1 in
    subst (SoundShape parity) rules.shape.header rules.shape

pub parity-pairs : (c : List ℕ) → admitted (protocol_in parity (header_of parity)) c ≡ true → PairsTell parity (header_of parity) c
parity-pairs = claims.of_pairs.tell parity (header_of parity) parity_sound

-- Demand 3 holds of the third group of the page of majority above, whatever the limits are.
pub majority_page : PagesSettle majority (header_of majority) (2 ∷ 1 ∷ 0 ∷ 0 ∷ 1 ∷ 0 ∷ 0 ∷ 0 ∷ 1 ∷ 1 ∷ 0 ∷ 0 ∷ 0 ∷ 3 ∷ 0 ∷ 0 ∷ []) (replicate 8 7) 2
unfolding shaping
majority_page = claims.of_page.settles majority (_, samples_hold.1.1.1.1.1.1.1.1.1.1.1.0) _ _ pages_hold.0.0 2 (omega arith)

-- The totals of majority with three workers are what the claims say of them.
pub majority-totals : TotalsAre majority 3 (record { states = 4; starts = 4; zeros = 2; ones = 2; most = 2 }) (sheet_of majority 3).first
majority-totals = claims.of_totals.totals_are majority 3 _ sheets_hold.1.0.0

-- What the sheets of broadcast and of quorum claim holds of every vote from every start.
pub broadcast_decides : (c : List ℕ) → Start (protocol_in broadcast (header_of broadcast)) c → Decides broadcast broadcast_sheet c
broadcast_decides = claims.of_sheet.decides broadcast broadcast_sheet claims_hold.0

pub quorum_decides : (c : List ℕ) → Start (protocol_in quorum (header_of quorum)) c → Decides quorum quorum_sheet c
quorum_decides = claims.of_sheet.decides quorum quorum_sheet claims_hold.1.1.1.1.1.1.1.1.1.0
