-- The leaf rule of a sheet, test by test. Assumes nothing.
use Rattle.std.specs.Prelude.{◌≡◌, true, ◌↔◌, ℕ, ◌+◌, ◌*◌, ◌<◌, ltb}
use borrow.Author.Tests.{ltb-true, lt-ltb}
use Rattle.theory.proofs.Bool.Laws.{all_four}
use Rattle.theory.specs.Protocol.{Protocol}
use Rattle.theory.specs.Facts.{Facts}
use Rattle.theory.specs.Leaf.{extra, spare, total, non_increasing, start_fits, times, end_fits, surplus, shortfall}
use Rattle.theory.proofs.Leaf.Tests.{Falls, AtMost, FewBelow, falls, at_most, few-below}
use Rattle.theory.specs.Sheet.{Threshold, sheet_closes}

module _ (P : Protocol) (B : Threshold) (F : Facts) (w : ℕ → ℕ) (k : ℕ) where
  -- What stands for y1 + y2 at the start, and its bias.
  abbrev pub at_start : ℕ → ℕ
  at_start s = w s + k * B.numbers s

  abbrev pub start_bias : ℕ
  start_bias = 10000 + k * 32768

  abbrev pub reductions : ℕ
  reductions = total P (shortfall P F 1 10000 w) + total P (extra (times P F) start_bias at_start) + k * B.minus

  abbrev pub additions : ℕ
  additions = total P (surplus P F 1 10000 w) + total P (spare (times P F) start_bias at_start) + k * B.plus

  pub record Closes : Type 0 where
    pub rules : Falls P F 1 w
    pub start : AtMost P F start_bias at_start
    pub ends : FewBelow P F 10000 1 w
    pub sums : reductions < additions

  pub sheet-closes : (sheet_closes P B F w k ≡ true) ↔ Closes
  unfolding sheet_closes
  sheet-closes =
      let four =
      all_four (non_increasing P (F.unused 1) w) (start_fits P F start_bias at_start) (end_fits P F 1 10000 w) (ltb reductions additions) in (
        λ e.
            let t = four.0 e in
            record {
              rules = (falls P F 1 w).0 t.0;
              start = (at_most P F start_bias at_start).0 t.1;
              ends = (few-below P F 10000 1 w).0 t.2;
              sums = ltb-true reductions additions t.3;
            },
        λ t.
            four.1 (
              (falls P F 1 w).1 t.rules,
              (at_most P F start_bias at_start).1 t.start,
              (few-below P F 10000 1 w).1 t.ends,
              lt-ltb reductions additions t.sums,
            ),
      )
