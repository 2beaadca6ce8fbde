-- The claims about versions are proved: both dockets have one protocol. Assumes nothing.
use Rattle.refusals.specs.declared.Refusal.{Refusal}
use Rattle.refusals.specs.Refusal.{refusal}
use Rattle.std.specs.Prelude.{◌≡◌, refl, Bool, not, ◌&&◌, ◌||◌, List, [], ◌∷◌, ◌++◌, ℕ, zero, suc, ◌+◌, ◌*◌, ◌/◌, ◌%◌, ltb, eqb, length, get_or, take, Err}
use Rattle.std.proofs.Common.{sym, ◌∙◌, inr}
use Rattle.std.proofs.Math.Path.{ap, subst, fun_ext}
use Rattle.std.proofs.Math.Nat.{mul-div_cancel_left}
use native.Mathlib.Omega.{arith}
use Rattle.theory.specs.Below.{Clear, any_below}
use Rattle.theory.specs.Protocol.{Protocol}
use Rattle.theory.specs.Judge.{Passes}
use Rattle.theory.proofs.Judge.Laws.{passes_back, passes_both}
use Rattle.theory.specs.Machine.{refused, reply, counts_after}
use Rattle.format.specs.Bytes.{le16}
use Rattle.format.specs.Format.{header_of, Sections, sections, sections_of, state_width, states_length, rules_length, layers_length, nodes_length, leaves_length}
use Rattle.format.specs.Format.{flags, fixed_of, protocol_of, layers_of, protocol_in, layers_in}
use Rattle.format.specs.declared.Sizes.{Sizes}
use Rattle.format.specs.declared.Header.{Header}
use Rattle.shape.specs.Shape.{bad_state, bad_layer, section_tests, header_tests}
use Rattle.shape.specs.Shape.{shape_of, by_shape}
use Rattle.shape.specs.Sound.{Limits, InOrder, SoundShape}
use Rattle.shape.proofs.SoundLaws.{header_passes, clear_order, sound_passes, sound_lengths, shape_sound}
use Rattle.leaf.specs.Leaf.{bad_leaf}
use Rattle.checker.specs.Check.{sections_check, check_of}
use Rattle.machine.specs.Calls.{start_answer, pairs_answer, terminal_answer, verdict_answer, start_of, pairs_of, terminal_of, verdict_of, reply_of, counts_of}
use Rattle.writer.specs.Write.{records, sizes_in, WholeRecords, header_for}
use Rattle.writer.proofs.WriteLaws.{docket_length}
use Rattle.writer.proofs.RoundTripLaws.{header_same, sections_same, written_laid, written_sound, sizes_same}
use Rattle.claims.specs.OfOrder.{FirstNotAfter, earlier_tests}
use Rattle.claims.proofs.OfOrder.Proved.{of_order}
use Rattle.claims.specs.OfVersions.{widened, in_version2, Alike, OfVersions}

-- ---- State records

wide_length : (xs : List ℕ) → length (widened xs) ≡ 3 * length xs
unfolding widened
wide_length [] = refl
wide_length (x ∷ xs) = omega (arith, wide_length xs)

-- Byte k of state s: of three the first is as it was, the others are 0.
wide_at : (xs : List ℕ) (s : ℕ) → (get_or (widened xs) (3 * s) 0 ≡ get_or xs s 0)
    × (get_or (widened xs) (3 * s + 1) 0 ≡ 0) × (get_or (widened xs) (3 * s + 2) 0 ≡ 0)
unfolding widened
wide_at [] s = (refl, refl, refl)
wide_at (x ∷ xs) zero = (refl, refl, refl)
wide_at (x ∷ xs) (suc s) =
    let t = wide_at xs s in
    let w = x ∷ 0 ∷ 0 ∷ widened xs in
    let a : 3 * suc s ≡ suc (suc (suc (3 * s))) = omega arith in
    let b : 3 * suc s + 1 ≡ suc (suc (suc (3 * s + 1))) = omega arith in
    let c : 3 * suc s + 2 ≡ suc (suc (suc (3 * s + 2))) = omega arith in
    (ap (λ k. get_or w k 0) a ∙ t.0, ap (λ k. get_or w k 0) b ∙ t.1, ap (λ k. get_or w k 0) c ∙ t.2)

-- The sizes z in version 2.
abbrev two : Sizes → Sizes
two z = record { version = 2; states = z.states; rules = z.rules; layers = z.layers; nodes = z.nodes; leaves = z.leaves }

module _ (z : Sizes) (one : z.version ≡ 1) (states : List ℕ) where
  flags_same : (s : ℕ) → flags (two z) (widened states) s ≡ flags z states s
  flags_same s = let e : 1 * s ≡ s = omega arith in (wide_at states s).0 ∙ rw (one, e)

  fixed_same : (s : ℕ) → fixed_of (two z) (widened states) s ≡ fixed_of z states s
  unfolding le16
  fixed_same s =
      let e : 3 * s + 1 + 1 ≡ 3 * s + 2 = omega arith in
      let t = wide_at states s in
      rw (one, t.1, e, t.2)

  flags-all : flags (two z) (widened states) ≡ flags z states
  flags-all = fun_ext flags_same

  fixed_all : fixed_of (two z) (widened states) ≡ fixed_of z states
  fixed_all = fun_ext fixed_same

  -- The protocol by the bytes and the fixed agents of its states, and what test 5 refuses.
  abbrev protocol_by : List ℕ → (ℕ → ℕ) → (ℕ → ℕ) → Protocol
  protocol_by rules f g =
      let P = protocol_of z states rules in
      record {
        states = P.states;
        rules = P.rules;
        p = P.p;
        q = P.q;
        p' = P.p';
        q' = P.q';
        output = λ s. eqb (f s % 2) 1;
        input = λ s. eqb (f s / 2 % 2) 1;
        fixed = g;
      }

  abbrev bad_by : (ℕ → ℕ) → (ℕ → ℕ) → ℕ → Bool
  bad_by f g s =
      ltb s z.states && (ltb 3 (f s) || ltb 1000 (g s)) || eqb s z.states && not (any_below z.states (λ k. eqb (f k / 2 % 2) 1))

  protocol_same : (rules : List ℕ) → protocol_of (two z) (widened states) rules ≡ protocol_of z states rules
  protocol_same rules = ap (λ f. protocol_by rules f (fixed_of (two z) (widened states))) flags-all ∙ ap (protocol_by rules (flags z states)) fixed_all

  bad_same : bad_state (two z) (widened states) ≡ bad_state z states
  unfolding bad_state
  bad_same = ap (λ f. bad_by f (fixed_of (two z) (widened states))) flags-all ∙ ap (bad_by (flags z states)) fixed_all

-- ---- The docket in version 2

module _ (b : List ℕ) (h : Header) (g : SoundShape b h) (one : h.sizes.version ≡ 1) where
  abbrev z : Sizes
  z = h.sizes

  abbrev x : Sections
  x = sections_of b h

  abbrev y : Sections
  y = sections (widened x.states) x.rules x.layers x.nodes x.leaves

  abbrev d : List ℕ
  d = in_version2 b h

  states_are : length x.states ≡ z.states
  states_are = let e : 1 * z.states ≡ z.states = omega arith in (sound_lengths b h g).states ∙ ap (λ v. state_width v * z.states) one ∙ e

  sizes_are : sizes_in 2 y ≡ two z
  sizes_are =
      let same = sizes_same b h g in
      let v = z.version in
      let three : length (widened x.states) ≡ 3 * z.states = wide_length x.states ∙ ap (λ n. 3 * n) states_are in
      let s : records 3 (length (widened x.states)) ≡ z.states = ap (λ n. n / 3) three ∙ mul-div_cancel_left z.states (omega arith) in
      let t : (sizes_in v x).states ≡ z.states = ap (λ (k : Sizes). k.states) same in
      let r : records 5 (length x.rules) ≡ z.rules = ap (λ (k : Sizes). k.rules) same in
      let l : records (4 * z.states) (length x.layers) ≡ z.layers =
      ap (λ n. records (4 * n) (length x.layers)) (sym t) ∙ ap (λ (k : Sizes). k.layers) same in
      let n : records 12 (length x.nodes) ≡ z.nodes = ap (λ (k : Sizes). k.nodes) same in
      let k : records (4 * z.states) (length x.leaves) ≡ z.leaves =
      ap (λ n. records (4 * n) (length x.leaves)) (sym t) ∙ ap (λ (k : Sizes). k.leaves) same in
      rw (s, r, l, n, k)

  whole : WholeRecords 2 y
  whole =
      let N = sound_lengths b h g in
      record {
        states = wide_length x.states ∙ ap (λ n. 3 * n) states_are ∙ ap (λ k. states_length k) (sym sizes_are);
        rules = N.rules ∙ ap (λ k. rules_length k) (sym sizes_are);
        layers = λ _. N.layers ∙ ap (λ k. layers_length k) (sym sizes_are);
        nodes = N.nodes ∙ ap (λ k. nodes_length k) (sym sizes_are);
        leaves = λ _. N.leaves ∙ ap (λ k. leaves_length k) (sym sizes_are);
      }

  within : Limits (sizes_in 2 y)
  within =
      let L = g.limits in
      subst Limits (sym sizes_are) (record {
        states_least = L.states_least;
        states_most = L.states_most;
        rules_most = L.rules_most;
        layers_most = L.layers_most;
        no_layers = L.no_layers;
        no_rules = L.no_rules;
        nodes_least = L.nodes_least;
        nodes_most = L.nodes_most;
        leaves_most = L.leaves_most;
      })

  -- Tests 5 to 8 of version 1.
  old : Passes (section_tests z x)
  old = passes_back (header_tests b h) (section_tests z x) (sound_passes b h g)

  -- Test 5 in version 2.
  states_pass : Clear (bad_state (two z) y.states) (z.states + 1)
  states_pass = subst (λ f. Clear f (z.states + 1)) (sym (bad_same z one x.states)) old.0

  abbrev H : Header
  H = header_for (sizes_in 2 y)

  header_is : header_of d ≡ H
  header_is = header_same 2 y (inr refl) whole within

  -- What is made of sizes and sections.
  read_as : {A : Type 0} (f : Sizes → Sections → A) → f H.sizes (sections_of d H) ≡ f (two z) y
  read_as f = ap (f (sizes_in 2 y)) (sections_same 2 y (inr refl) whole within) ∙ ap (λ k. f k y) sizes_are

  longer : length d ≡ length b + 2 * z.states
  longer =
      omega (
        arith,
        docket_length 2 y,
        docket_length 2 x,
        wide_length x.states,
        states_are,
        (sound_lengths b h g).rules,
        (sound_lengths b h g).layers,
        (sound_lengths b h g).nodes,
        (sound_lengths b h g).leaves,
        g.laid.whole,
        g.laid.total,
        g.laid.leaves,
        g.laid.nodes,
        g.laid.layers,
        g.laid.rules,
        g.laid.states,
        (sound_lengths b h g).states,
      )

  -- ---- Rules out of order

  -- Tests 1 to 7.
  earlier_pass : Passes (earlier_tests d H)
  earlier_pass =
      subst (λ ts. Passes (take 7 (header_tests d H ++ ts))) (sym (read_as section_tests))
      (passes_both (header_tests d H) (take 3 (section_tests (two z) y))
      (header_passes d H (inr refl) within (written_laid 2 y (inr refl) whole within))
      (states_pass, (old.1.0, (old.1.1.0, tt))))

  out_of_order : (e : ℕ) → FirstNotAfter z.rules x.rules e → shape_of d ≡ Err (refusal 14 (suc e))
  out_of_order e first =
      let there = subst (λ (k : Sizes). FirstNotAfter k.rules x.rules e) (sym sizes_are) first in
      let here = subst (λ (u : Sections). FirstNotAfter H.sizes.rules u.rules e) (sym (sections_same 2 y (inr refl) whole within)) there in
      (of_order.refusal_14 d (suc e)).1
      (subst
      (λ k. Passes (earlier_tests d k) × (k.sizes.version ≡ 2)
      × ((i : ℕ) × (suc e ≡ suc i) × FirstNotAfter k.sizes.rules (sections_of d k).rules i))
      (sym header_is) (earlier_pass, refl, (e, refl, here)))

  -- ---- Answers where the rules stand in order

  module _ (up : InOrder z.rules x.rules) where
    passes : Passes (section_tests (sizes_in 2 y) y)
    unfolding bad_layer
    passes =
        subst (λ k. Passes (section_tests k y)) (sym sizes_are)
        (states_pass, (old.1.0, (old.1.1.0, (clear_order (two z) y (λ _. up), old.1.1.1.1))))

    sound : SoundShape d H
    sound = written_sound 2 y (inr refl) whole within passes

    sound_read : SoundShape d (header_of d)
    sound_read = subst (SoundShape d) (sym header_is) sound

    -- What an answer says of the two shapes.
    same_by : {A : Type 0} (refuse : Refusal → A) (f : (c : List ℕ) → Header → A) → f d H ≡ f b h
        → by_shape refuse (f d) (shape_of d) ≡ by_shape refuse (f b) (shape_of b)
    same_by refuse f e = ap (by_shape refuse (f d)) (shape_sound d H sound) ∙ e ∙ sym (ap (by_shape refuse (f b)) (shape_sound b h g))

    protocols : protocol_in d H ≡ protocol_in b h
    protocols = read_as (λ k u. protocol_of k u.states u.rules) ∙ protocol_same z one x.states x.rules

    layers : layers_in d H ≡ layers_in b h
    layers = read_as (λ k u. layers_of k u.rules)

    checks : sections_check (two z) y ≡ sections_check z x
    unfolding sections_check bad_leaf
    checks = rw (protocol_same z one x.states x.rules)

    alike : Alike b d
    unfolding check_of start_of pairs_of terminal_of verdict_of reply_of counts_of
    alike = record {
      check = same_by Err (λ c k. sections_check k.sizes (sections_of c k)) (read_as sections_check ∙ checks);
      start = λ c. same_by Err (λ e k. start_answer (protocol_in e k) c) (ap (λ P. start_answer P c) protocols);
      can_act = λ c r. same_by Err (λ e k. pairs_answer (protocol_in e k) c r) (ap (λ P. pairs_answer P c r) protocols);
      standstill = λ c. same_by Err (λ e k. terminal_answer (protocol_in e k) c) (ap (λ P. terminal_answer P c) protocols);
      verdict = λ c. same_by Err (λ e k. verdict_answer (protocol_in e k) c) (ap (λ P. verdict_answer P c) protocols);
      of_call = λ c u. (
        same_by (λ r. refused r.number r.place) (λ e k. reply (protocol_in e k) (layers_in e k) c u)
            (ap (λ P. reply P (layers_in d H) c u) protocols ∙ ap (λ L. reply (protocol_in b h) L c u) layers),
        same_by (λ _. c) (λ e k. counts_after (protocol_in e k) (layers_in e k) c u)
            (ap (λ P. counts_after P (layers_in d H) c u) protocols ∙ ap (λ L. counts_after (protocol_in b h) L c u) layers),
      );
    }

pub of_versions : OfVersions
of_versions = record { longer = longer; sound = sound_read; alike = alike; out_of_order = out_of_order }
