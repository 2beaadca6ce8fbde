-- The code's returns follow the definitions of the calls. Assumes nothing.
use Rattle.std.specs.Option.{is_none, MatchOption}
use Rattle.std.specs.Prelude.{◌≡◌, Bool, false, cond, ◌&&◌, List, [], ℕ, ◌≤◌, ◌<◌, ltb, eqb, Option, Some, None, Result, Ok, Err}
use Rattle.std.proofs.Math.Path.{refl, sym, ap}
use Rattle.std.proofs.Common.{◌∙◌, arith}
use Rattle.std.proofs.Math.Bool.{true, not, and-false}
use Rattle.std.specs.Bool.{beq}
use Rattle.std.proofs.Math.Logic.{by_cases}
use Rattle.std.proofs.Math.Decide.{dec_lt}
use borrow.Author.Tests.{ltb-true, ltb-false, lt-ltb, le-ltb, eq-eqb, ne_eqb}
use Rattle.theory.specs.Bool.{member, imp}
use Rattle.theory.proofs.Bool.Laws.{by_test, not_both, is_false, and_elim}
use Rattle.theory.proofs.Below.Laws.{all_same, first_is, first_passes, first-lowest}
use Rattle.theory.specs.Protocol.{Protocol, WellFormed, count, size, enabled, fire, terminal, shows, output_of, unfit, start_test, fires, tried, after}
use Rattle.theory.proofs.Protocol.Laws.{terminal_off}
use Rattle.theory.proofs.Protocol.Lists.{tried-fires, tried_not, rule_fires}
use Rattle.theory.specs.Pairs.{pairs}
use Rattle.theory.specs.Ladder.{Layers, OrderedPartition, lowest, enabled_in}
use Rattle.theory.proofs.Ladder.Active.{enabled_in_elim}
use Rattle.theory.specs.Machine.{Call, Reply, step, run, stepped, refused, admitted, admit, chosen, reply, counts_after, step_reply, run_reply}
use Rattle.theory.proofs.Machine.Laws.{adds_on, adds_off, reply_step, step_no_rule, step_not_enabled, step_fires, chosen-fires}
use Rattle.bits.specs.Code.{among_of, subset_of, disjoint_of, lowest_of}
use Rattle.bits.specs.Code.Laws.{all_wider}
use Rattle.format.specs.Format.{sections_of, protocol_of, layers_of, protocol_in, layers_in}
use Rattle.format.specs.Code.{has_flag}
use Rattle.format.specs.declared.Header.{Header}
use Rattle.format.specs.declared.Flag.TheVariants.{Output}
use Rattle.refusals.specs.declared.Refusal.{Refusal}
use Rattle.refusals.specs.Refusal.{refusal}
use Rattle.shape.specs.Shape.{shape_of, by_shape}
use Rattle.shape.proofs.ShapeLaws.{sound_then, sound_else}
use Rattle.shape.specs.Code.{header_in}
use Rattle.shape.specs.declared.sound.Docket.{Docket}
use Rattle.shape.specs.Sound.{SoundShape}
use Rattle.shape.proofs.SoundLaws.{shape_sound}
use Rattle.counts.specs.Code.{counts_test, chosen_of, is_occupied}
use Rattle.counts.specs.Code.Laws as counts
use Rattle.counts.specs.Code.Laws.{chosen-tells}
use Rattle.machine.specs.Calls.{verdict_as, reply_of, counts_of}
use Rattle.machine.specs.Code.{Replies, RepliesOn}

-- ---- The shape s of a docket with bytes b

module _ (b c e : List ℕ) (x : Call) (s : Result Docket Refusal) (h : header_in s ≡ shape_of b) where
  pub replies_sound : (d : Docket) (said : Reply) → s ≡ Ok d → d.bytes.now ≡ b
      → Replies (protocol_in d.bytes.now d.header) (layers_in d.bytes.now d.header) c x said e → RepliesOn b c x said e
  unfolding reply_of counts_of
  replies_sound d said u q g = record {
    says =
        sound_then (λ r. refused r.number r.place) (λ k. reply (protocol_in b k) (layers_in b k) c x) said s (shape_of b) h d u
        (rw q at g.says);
    leaves = sound_then (λ _. c) (λ k. counts_after (protocol_in b k) (layers_in b k) c x) e s (shape_of b) h d u (rw q at g.leaves);
  }

  pub replies_refused : (r : Refusal) → s ≡ Err r → e ≡ c → RepliesOn b c x (refused r.number r.place) e
  unfolding reply_of counts_of
  replies_refused r u g = record {
    says =
        sound_else (λ k. refused k.number k.place) (λ k. reply (protocol_in b k) (layers_in b k) c x)
        (refused r.number r.place) s (shape_of b) h r u refl;
    leaves = sound_else (λ _. c) (λ k. counts_after (protocol_in b k) (layers_in b k) c x) e s (shape_of b) h r u g;
  }

-- A call that changes nothing, which answers f of the header and the bytes.
pub answers_sound : {A : Type 0} (b : List ℕ) (f : List ℕ → Header → Result A Refusal) (a : Result A Refusal) (s : Result Docket Refusal)
    → header_in s ≡ shape_of b → (d : Docket) → s ≡ Ok d → d.bytes.now ≡ b → a ≡ f d.bytes.now d.header → a ≡ by_shape Err (f b) (shape_of b)
answers_sound b f a s h d u q g = sound_then Err (f b) a s (shape_of b) h d u (rw q at g)

-- The calls on the bytes of a docket of sound shape are those on its protocol.
module _ (b : List ℕ) (h : Header) (sound : SoundShape b h) (c : List ℕ) (x : Call) where
  pub reply_sound : reply_of b c x ≡ reply (protocol_in b h) (layers_in b h) c x
  unfolding reply_of
  reply_sound = ap (by_shape (λ r. refused r.number r.place) (λ k. reply (protocol_in b k) (layers_in b k) c x)) (shape_sound b h sound)

  pub counts_sound : counts_of b c x ≡ counts_after (protocol_in b h) (layers_in b h) c x
  unfolding counts_of
  counts_sound = ap (by_shape (λ _. c) (λ k. counts_after (protocol_in b k) (layers_in b k) c x)) (shape_sound b h sound)

-- ---- The counts: x is what tests 20 and 21 find

module _ (P : Protocol) (c : List ℕ) (x : Result (Unit {0}) Refusal) (e : x ≡ counts_test P.states c) where
  pub counts_refused : {A : Type 0} (g : Refusal → A) (y a : A) (r : Refusal) → x ≡ Err r → a ≡ g r → a ≡ admit P c (λ n. g (refusal n 0)) y
  counts_refused g y a r u h = h ∙ sym (counts.test_refuses P c r (sym u ∙ e) g y)

  pub counts_passed : {A : Type 0} (refuse : ℕ → A) (y a : A) → x ≡ Ok tt → a ≡ y → a ≡ admit P c refuse y
  counts_passed refuse y a u h = h ∙ sym (counts.test_admits P c (sym u ∙ e) refuse y)

  pub counts-admitted : x ≡ Ok tt → admitted P c ≡ true
  counts-admitted u = counts.test_admitted P c (sym u ∙ e)

  pub counts_small : x ≡ Ok tt → size c ≤ 1000000
  counts_small u = (counts.test-size P c (sym u ∙ e)).1

  -- What a step or a run on counts that do not pass says and leaves.
  pub replies_not_admitted : (L : Layers) (y : Call) (r : Refusal) → x ≡ Err r → Replies P L c y (refused r.number r.place) c
  unfolding reply counts_after after
  replies_not_admitted L y r u = record { says = says y; leaves = sym (ap (after P c) (adds_off P L c y (counts.test_not_admitted P c r (sym u ∙ e)))) }
    where
      says : (y : Call) → refused r.number r.place ≡ reply P L c y
      says (step k) = counts_refused (λ q. refused q.number q.place) (step_reply P c k) (refused r.number r.place) r u refl
      says (run limit) = counts_refused (λ q. refused q.number q.place) (run_reply P L c limit) (refused r.number r.place) r u refl

-- ---- The start test

-- A number below n is in the set just where it passes the test; no other is.
among_below : (f : ℕ → Bool) (n s : ℕ) → n ≤ 64 → s < n → among_of n f s ≡ f s
unfolding among_of
among_below f n s h l = rw (lt-ltb s 64 (omega arith), lt-ltb s n l)

among_above : (f : ℕ → Bool) (n s : ℕ) → n ≤ s → among_of n f s ≡ false
unfolding among_of
among_above f n s l = rw (le-ltb s n l) (and-false (ltb s 64))

imp_beq_false : (x y : Bool) → not (x && y) ≡ imp x (beq y false)
imp_beq_false true true = refl
imp_beq_false true false = refl
imp_beq_false false y = refl

imp_beq_true : (x y : Bool) → imp x y ≡ imp x (beq y true)
imp_beq_true true true = refl
imp_beq_true true false = refl
imp_beq_true false y = refl

module _ (b : List ℕ) (h : Header) (c states : List ℕ) (sound : SoundShape b h) (here : states ≡ (sections_of b h).states) where
  small : h.sizes.states ≤ 64
  small = sound.limits.states_most

  -- The word w has the states that pass the test f.
  module _ (w : ℕ) (f : ℕ → Bool) (hw : member w ≡ among_of h.sizes.states f) where
    word_below : (s : ℕ) → s < h.sizes.states → member w s ≡ f s
    word_below s l = ap (λ A. A s) hw ∙ among_below f h.sizes.states s small l

    word_above : (s : ℕ) → h.sizes.states ≤ s → member w s ≡ false
    word_above s l = ap (λ A. A s) hw ∙ among_above f h.sizes.states s l

  -- w has the states whose counts are against the start rule, and place is the lowest of them.
  module _ (w place : ℕ) (hw : member w ≡ among_of h.sizes.states (unfit (protocol_of h.sizes states []) c)) (hp : place ≡ lowest_of w) where
    unfit-below : (s : ℕ) → s < h.sizes.states → member w s ≡ unfit (protocol_in b h) c s
    unfolding unfit
    unfit-below s l = word_below w _ hw s l ∙ ap (λ x. unfit (protocol_of h.sizes x []) c s) here

    unfit_above : (s : ℕ) → h.sizes.states ≤ s → member w s ≡ false
    unfit_above = word_above w _ hw

    fit_before : (s : ℕ) → s < place → s < h.sizes.states → unfit (protocol_in b h) c s ≡ false
    fit_before s l m = sym (unfit-below s m) ∙ first-lowest 64 (member w) s (omega (arith, hp))

    start_first : place < 64 → (start_test (protocol_in b h) c ≡ place) × (place < h.sizes.states)
    unfolding start_test
    start_first l =
        let hit : member w place ≡ true = ap (member w) hp ∙ first_passes 64 (member w) (omega (arith, hp)) in
        let below : place < h.sizes.states =
        by_cases (dec_lt place h.sizes.states) (λ m. m) (λ m. absurd (not_both hit (unfit_above place (omega arith)))) in (
          first_is h.sizes.states (unfit (protocol_in b h) c) place (omega arith)
              (λ s m. fit_before s m (omega arith)) (λ _. sym (unfit-below place below) ∙ hit),
          below,
        )

    start_none : 64 ≤ place → start_test (protocol_in b h) c ≡ h.sizes.states
    unfolding start_test
    start_none l =
        first_is h.sizes.states (unfit (protocol_in b h) c) h.sizes.states (omega arith)
        (λ s m. fit_before s (omega (arith, small)) m) (λ m. absurd (omega arith))

    -- The start test beyond 20 and 21.
    abbrev started_by : Result (Unit {0}) Refusal
    started_by =
        cond (ltb (start_test (protocol_in b h) c) h.sizes.states) (Err (refusal 22 (start_test (protocol_in b h) c))) (Ok tt)

    pub start_unfit : (a : Result (Unit {0}) Refusal) → place < 64 → a ≡ Err (refusal 22 place) → a ≡ started_by
    start_unfit a l g = let f = start_first l in rw (f.0, lt-ltb place h.sizes.states f.1) g

    pub start_fit : (a : Result (Unit {0}) Refusal) → 64 ≤ place → a ≡ Ok tt → a ≡ started_by
    start_fit a l g = rw (start_none l, le-ltb h.sizes.states h.sizes.states (omega arith)) g

  -- ---- The verdict

  module _ (occupied outputs : ℕ) (ho : member occupied ≡ among_of h.sizes.states (is_occupied c))
      (hv : member outputs ≡ among_of h.sizes.states (has_flag h.sizes states Output)) where
    occupied_below : (s : ℕ) → s < h.sizes.states → member occupied s ≡ ltb 0 (count c s)
    occupied_below = word_below occupied _ ho

    occupied_above : (s : ℕ) → h.sizes.states ≤ s → member occupied s ≡ false
    occupied_above = word_above occupied _ ho

    output_below : (s : ℕ) → s < h.sizes.states → member outputs s ≡ (protocol_in b h).output s
    output_below s l =
        word_below outputs _ hv s l ∙ ap (λ x. has_flag h.sizes x Output s) here

    shows_0 : disjoint_of occupied outputs ≡ shows (protocol_in b h) false c
    unfolding shows
    shows_0 =
        all_wider 64 h.sizes.states (λ i. not (member occupied i && member outputs i)) small (λ i l. rw (occupied_above i l))
        ∙ all_same h.sizes.states (λ i. not (member occupied i && member outputs i))
        (λ s. imp (ltb 0 (count c s)) (beq ((protocol_in b h).output s) false))
        (λ s l. rw (occupied_below s l, output_below s l) (imp_beq_false (ltb 0 (count c s)) ((protocol_in b h).output s)))

    shows_1 : subset_of occupied outputs ≡ shows (protocol_in b h) true c
    unfolding shows
    shows_1 =
        all_wider 64 h.sizes.states (λ i. imp (member occupied i) (member outputs i)) small (λ i l. rw (occupied_above i l))
        ∙ all_same h.sizes.states (λ i. imp (member occupied i) (member outputs i))
        (λ s. imp (ltb 0 (count c s)) (beq ((protocol_in b h).output s) true))
        (λ s l. rw (occupied_below s l, output_below s l) (imp_beq_true (ltb 0 (count c s)) ((protocol_in b h).output s)))

    module _ (t : Bool) (a : Result (Option Bool) Refusal) (e : t ≡ disjoint_of occupied outputs) where
      pub verdict_0 : t ≡ true → a ≡ Ok (Some false) → a ≡ Ok (verdict_as (output_of (protocol_in b h) c))
      unfolding output_of
      verdict_0 d g = rw (sym shows_0 ∙ sym e ∙ d) g

      module _ (d : t ≡ false) (u : Bool) (f : u ≡ subset_of occupied outputs) where
        pub verdict_1 : u ≡ true → a ≡ Ok (Some true) → a ≡ Ok (verdict_as (output_of (protocol_in b h) c))
        unfolding output_of
        verdict_1 v g = rw (sym shows_0 ∙ sym e ∙ d, sym shows_1 ∙ sym f ∙ v) g

        pub verdict_mixed : u ≡ false → a ≡ Ok None → a ≡ Ok (verdict_as (output_of (protocol_in b h) c))
        unfolding output_of
        verdict_mixed v g = rw (sym shows_0 ∙ sym e ∙ d, sym shows_1 ∙ sym f ∙ v) g

-- ---- The chosen rule

module _ (P : Protocol) {L : Layers} (part : OrderedPartition P L) (c : List ℕ) where
  -- Where nothing is enabled nothing is chosen; otherwise the chosen rule is one, and is enabled.
  chosen_none : terminal P c ≡ true → chosen P L c ≡ P.rules
  unfolding chosen
  chosen_none t =
      first_is P.rules (enabled_in P L c (lowest P L c)) P.rules (omega arith)
      (λ r l. is_false _ (λ e. not_both (enabled_in_elim P L c (lowest P L c) r e).1 (terminal_off P c t r l)))
      (λ l. absurd (omega arith))

  pub chosen-enabled : terminal P c ≡ false → (chosen P L c < P.rules) × (enabled P c (chosen P L c) ≡ true)
  unfolding fires
  chosen-enabled t =
      let s = and_elim (ltb (chosen P L c) P.rules) (enabled P c (chosen P L c)) (chosen-fires P part c t).0 in
      (ltb-true _ _ s.0, s.1)

  pub terminal-chosen : terminal P c ≡ eqb (chosen P L c) P.rules
  terminal-chosen =
      by_test (terminal P c)
      (λ t. t ∙ sym (eq-eqb _ _ (chosen_none t)))
      (λ t. t ∙ sym (ne_eqb (chosen P L c) P.rules (λ e. omega (arith, (chosen-enabled t).0))))

  -- o is the rule that is chosen, if one is.
  pub terminal-none : (o : Option ℕ) → o ≡ chosen_of P L c → terminal P c ≡ is_none o
  terminal-none o e = terminal-chosen ∙ go o (chosen-tells P L c o e)
    where
      go : (o : Option ℕ) → MatchOption o (chosen P L c ≡ P.rules) (λ r. (r < P.rules) × (r ≡ chosen P L c)) → eqb (chosen P L c) P.rules ≡ is_none o
      go (Some r) f = ne_eqb (chosen P L c) P.rules (λ q. omega (arith, f.0, f.1))
      go None f = eq-eqb (chosen P L c) P.rules f

-- ---- The rule that a number names: x is what rule_in finds

err_not_ok : {A R : Type 0} {r : R} {a : A} → Err r ≡ Ok a → ⊥
err_not_ok {A} {R} {r} {a} e = let z : ◌≡◌ {A = ℕ} 0 1 = cc in omega arith

-- What stands in a result, and p where it is of the other kind.
abbrev value_or : {A R : Type 0} → A → Result A R → A
value_or p (Ok a) = a
value_or p (Err r) = p

abbrev error_or : {A R : Type 0} → R → Result A R → R
error_or p (Ok a) = p
error_or p (Err r) = r

module _ (r n : ℕ) (x : Result ℕ Refusal) (e : x ≡ cond (ltb r n) (Ok r) (Err (refusal 23 r))) where
  pub rule_unknown : (q : Refusal) → x ≡ Err q → (n ≤ r) × (q ≡ refusal 23 r)
  rule_unknown q u =
      by_test (ltb r n)
      (λ t. absurd (err_not_ok (sym u ∙ rw t at e)))
      (λ t. (ltb-false r n t, ap (error_or q) (sym u ∙ rw t at e)))

  pub rule_known : (k : ℕ) → x ≡ Ok k → (r < n) × (k ≡ r)
  rule_known k u =
      by_test (ltb r n)
      (λ t. (ltb-true r n t, ap (value_or k) (sym u ∙ rw t at e)))
      (λ t. absurd (err_not_ok (sym (sym u ∙ rw t at e))))

  -- A number that names no rule.
  pub number_unknown : {A : Type 0} (q : Refusal) (y a : Result A Refusal) → x ≡ Err q → a ≡ Err q → a ≡ cond (ltb r n) y (Err (refusal 23 r))
  number_unknown q y a u g = let f = rule_unknown q u in rw (le-ltb r n f.0) (g ∙ ap Err f.1)

-- ---- Calls on the sections of a docket, as calls on the docket

module _ (b : List ℕ) (h : Header) (states rules : List ℕ) (hs : states ≡ (sections_of b h).states) (hr : rules ≡ (sections_of b h).rules) where
  protocol_in_lem : protocol_of h.sizes states rules ≡ protocol_in b h
  protocol_in_lem = rw (hs, hr)

  pub formed_in : SoundShape b h → WellFormed (protocol_of h.sizes states rules)
  formed_in sound = rw (hs, hr) sound.sections.formed

  pub partition_in : SoundShape b h → OrderedPartition (protocol_of h.sizes states rules) (layers_of h.sizes rules)
  partition_in sound = rw (hs, hr) sound.sections.partition

  pub replies_in : (c d : List ℕ) (x : Call) (said : Reply)
      → Replies (protocol_of h.sizes states rules) (layers_of h.sizes rules) c x said d → Replies (protocol_in b h) (layers_in b h) c x said d
  replies_in c d x said g = rw (← hs, ← hr) g

  -- The pairs of rule r, of number k.
  pub pairs-known : (c : List ℕ) (r k n : ℕ) (x a : Result ℕ Refusal) → x ≡ cond (ltb r h.sizes.rules) (Ok r) (Err (refusal 23 r)) → x ≡ Ok k
      → n ≡ pairs (protocol_of h.sizes states rules) c k → a ≡ Ok n
      → a ≡ cond (ltb r h.sizes.rules) (Ok (pairs (protocol_in b h) c r)) (Err (refusal 23 r))
  pairs-known c r k n x a d u e g =
      let f = rule_known r h.sizes.rules x d k u in
      rw (lt-ltb r h.sizes.rules f.0) (g ∙ ap Ok (e ∙ ap (λ P. pairs P c k) protocol_in_lem ∙ ap (pairs (protocol_in b h) c) f.1))

  -- o is the rule that is chosen, if one is.
  pub terminal_in : (c : List ℕ) → SoundShape b h → (o : Option ℕ) (t : Bool) (a : Result Bool Refusal)
      → o ≡ chosen_of (protocol_of h.sizes states rules) (layers_of h.sizes rules) c → t ≡ is_none o → a ≡ Ok t
      → a ≡ Ok (terminal (protocol_in b h) c)
  terminal_in c sound o t a e d g =
      let same : o ≡ chosen_of (protocol_in b h) (layers_in b h) c = rw (← hs, ← hr) e in
      g ∙ ap Ok (d ∙ sym (terminal-none (protocol_in b h) sound.sections.partition c o same))

-- ---- Step

module _ (P : Protocol) (L : Layers) (c : List ℕ) (r : ℕ) (on : admitted P c ≡ true) where
  step_leaves : counts_after P L c (step r) ≡ tried P c r
  unfolding counts_after after
  step_leaves = ap (after P c) (adds_on P L c (step r) on)

  -- A number that does not fire is refused and leaves the counts.
  step_refused : (said : Reply) → fires P c r ≡ false → step_reply P c r ≡ said → Replies P L c (step r) said c
  step_refused said off e = record {
    says = sym (reply_step P L c r on ∙ e);
    leaves = sym (step_leaves ∙ tried_not P c r off);
  }

  pub step_unknown : P.rules ≤ r → Replies P L c (step r) (refused 23 r) c
  unfolding fires
  step_unknown l = step_refused (refused 23 r) (rw (le-ltb r P.rules l)) (step_no_rule P c r l)

  -- x is what rule_in finds.
  pub step_no_such : (x : Result ℕ Refusal) → x ≡ cond (ltb r P.rules) (Ok r) (Err (refusal 23 r)) → (q : Refusal) → x ≡ Err q
      → Replies P L c (step r) (refused q.number q.place) c
  step_no_such x e q u = let f = rule_unknown r P.rules x e q u in rw (f.1) (step_unknown f.0)

  -- Rule r, of number k: whether it is enabled is t.
  module _ (k : ℕ) (t : Bool) (q : k ≡ r) (l : r < P.rules) (e : t ≡ enabled P c k) where
    is : enabled P c r ≡ t
    is = ap (enabled P c) (sym q) ∙ sym e

    pub step_disabled : t ≡ false → Replies P L c (step r) (refused 24 r) c
    unfolding fires
    step_disabled d = step_refused (refused 24 r) (rw (lt-ltb r P.rules l) (is ∙ d)) (step_not_enabled P c r l (is ∙ d))

    pub step_fired : (d : List ℕ) → t ≡ true → d ≡ fire P c k → Replies P L c (step r) stepped d
    step_fired d u f =
        let acts : fires P c r ≡ true = rule_fires P c r l (is ∙ u) in
        record {
          says = sym (reply_step P L c r on ∙ step_fires P c r acts);
          leaves = f ∙ ap (fire P c) q ∙ sym (step_leaves ∙ tried-fires P c r acts);
        }
