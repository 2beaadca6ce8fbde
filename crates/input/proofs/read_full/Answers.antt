-- A read puts the next bytes of the input behind those that stand in the buffer.
use Rattle.std.proofs.Common.{◌≡◌, ℕ, ◌+◌, ◌-◌, ◌≤◌, List, ◌++◌, rules, length, take, drop, sym, ap, ◌∙◌, subst, length-take-le}
use Rattle.std.proofs.Math.Seq.{take-append-le, take-append-add}
use Rattle.std.specs.Io.KnownBytes.{Consumes}
use Rattle.std.proofs.KnownBytes.{Consumes-trans}
use borrow.Rule.Slice.PartMut.{put_mid}
use Rattle.input.proofs.read_full.Goals as goal

-- The first a + n bytes of xs, of which those from a on are now ys.
take-put_mid_more : (a k n : ℕ) (xs ys : List ℕ) → a ≤ length xs → n ≤ length ys → take a xs ++ take n ys ≡ take (a + n) (put_mid a k xs ys)
take-put_mid_more a k n xs ys within fits =
    let rest = drop k (drop a xs) in
    ap (λ l. take a xs ++ l) (sym (take-append-le n ys rest fits))
    ∙ sym (take-append-add (take a xs) (ys ++ rest) n)
    ∙ ap (λ m. take (m + n) (take a xs ++ (ys ++ rest))) (length-take-le a xs within)

pub loop-done-preserved : goal.loop-done-preserved
loop-done-preserved g c =
    let from = c.loop-done.done in
    let buffer = c.loop-done.buffer in
    let within = c.loop-done.invariant.0 in
    let more =
    take-put_mid_more from (length buffer - from) c.in_ok-n.n buffer c.read.new.buf within c.in_ok-n.ensures.bound.0 in
    (search rules, subst (Consumes _ _) more (Consumes-trans _ _ _ _ _ c.loop-done.invariant.1 c.in_ok-n.ensures.bytes.0))
