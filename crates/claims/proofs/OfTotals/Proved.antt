-- The claims about totals are proved. Assumes nothing.
use Rattle.std.specs.Result.{is_ok}
use Rattle.std.specs.Prelude.{Result}
use Rattle.checker.specs.declared.Summary.{Summary}
use Rattle.refusals.specs.declared.Refusal.{Refusal}
use Rattle.refusals.specs.Refusal.{refusal}
use Rattle.std.specs.Prelude.{◌≡◌, refl, List, ◌++◌, map, length, Ok, Err}
use Rattle.std.proofs.Math.Path.{sym, ap}
use Rattle.std.proofs.Common.{◌∙◌, subst, inl, inr}
use Rattle.std.proofs.Math.Bool.{Bool, true, false, true≢false}
use Rattle.std.specs.Bool.{beq}
use Rattle.std.proofs.Math.Logic.{by_cases}
use Prim.Native.Nat.{ℕ, ◌+◌, ◌-◌, ◌*◌, ◌≤◌, ◌<◌}
use Rattle.std.proofs.Math.Decide.{dec_lt}
use native.Mathlib.Omega.{arith}
use Rattle.std.proofs.Math.ListN.{take, drop, replicate}
use Rattle.std.proofs.Math.Seq.{take-append_seam, drop-append_seam}
use Rattle.theory.specs.Bool.{bit}
use Rattle.theory.proofs.Bool.Laws.{by_test, not_both}
use Rattle.theory.specs.Below.{first_greatest}
use Rattle.theory.proofs.Below.Laws.{sum_const, sum_add, sum_same, le_greatest, place_lt, place-greatest, place-first}
use Rattle.theory.specs.Order.{lex_less}
use Rattle.theory.proofs.Order.Laws.{less_place, less_irreflexive}
use Rattle.theory.specs.Protocol.{Protocol, size, terminal, Shows, Start, after}
use Rattle.theory.proofs.Protocol.Laws.{output_is}
use Rattle.theory.proofs.Protocol.Lists.{length-after, size-after}
use Rattle.theory.specs.Ladder.{Layers, Laddered, spreads, rank}
use Rattle.theory.specs.Starts.{inputs_of, starts, start_at}
use Rattle.theory.proofs.Starts.Laws.{StartWith, each_start, every_start, descends, first-place}
use Rattle.theory.proofs.Starts.Number.{starts-number, starts-most}
use Rattle.theory.specs.Starts.Next.{first_start}
use Rattle.theory.proofs.Starts.Next.Laws.{excess_input, first_is}
use Rattle.theory.specs.Machine.{run, admitted, run_numbers, rest_numbers, rest_of}
use Rattle.theory.proofs.Machine.Laws.{RunList, run_numbers_is}
use Rattle.theory.proofs.Machine.Rest.{exact_limit, rests_on_lem, runs_to_calls, runs_rest, rest-steps, rest_stands, rest-terminal}
use Rattle.theory.specs.Claims.{Reaches}
use Rattle.format.specs.Format.{header_of, protocol_in, layers_in, weight_in}
use Rattle.checker.specs.Check.{check_of}
use Rattle.totals.specs.Totals.{is_agreed, steps_to_rest, rests_on, resting_on, steps_at, totals_of, first_most, beyond, Allowed, refused_sheet, full_sheet, sheet_in, sheet_of}
use Rattle.totals.proofs.TotalsLaws.{beyond_none, none_beyond, in_refused, in_full, runs_accepted, sheet_accepted, sheet_refused}
use Rattle.totals.specs.Code.{Runs, Group}
use Rattle.totals.proofs.CodeLaws.{group_admitted, bound_small}
use Rattle.totals.proofs.TallyLaws.{start_group}
use Rattle.totals.specs.declared.Totals.{Totals}
use Rattle.claims.specs.OfDocket.{IsAccepted, last_on, reported_on}
use Rattle.claims.proofs.OfDocket.Numbers.{is_one_of, check_numbers, check_number, check-number}
use Rattle.claims.proofs.OfDocket.Lists.{same_last, same_reported}
use Rattle.claims.proofs.OfDocket.Proved.{of_docket}
use Rattle.claims.specs.OfTotals.{StartsAre, SheetAnswers, StartRests, TotalsAre, OfTotals}

-- ---- The starts

module _ (P : Protocol) (n : ℕ) where
  -- A start with n agents besides the fixed ones, in the words of the claims.
  as_start : 2 ≤ n → (c : List ℕ) → StartWith P n c → Start P c
  as_start l c s = record { sized = s.sized; enough = omega (arith, s.agents); rule = s.rule }

  later_less : (i j : ℕ) → i < j → j < length (starts P n) → start_at P n i ≡ start_at P n j → ⊥
  later_less i j l m e = less_irreflexive (start_at P n j) (ap (lex_less (start_at P n j)) (sym e) ∙ descends P n i j l m)

  starts_are : 2 ≤ n → StartsAre P n
  starts_are two = record {
    only = λ k l. let s = each_start P n k l in (as_start two (start_at P n k) s, s.agents);
    all = λ c start e. every_start P n c (record { sized = start.sized; agents = e; rule = start.rule });
    once = λ i j l m e.
        by_cases (dec_lt i j)
        (λ b. absurd (later_less i j b m e))
        (λ g. by_cases (dec_lt j i) (λ b. absurd (later_less j i b l (sym e))) (λ h. omega arith));
    descending = λ i j l m.
        let s = each_start P n i (omega arith) in
        let t = each_start P n j m in
        let p = less_place (start_at P n j) (start_at P n i) (t.sized ∙ sym s.sized) (descends P n i j l m) in
        let at = p.1 in (
          p.0,
          omega (arith, at.inside, t.sized),
          excess_input P n (start_at P n j) (start_at P n i) t s p.0 at,
          λ r b. sym (at.same r b),
          at.less,
        );
    number = starts-number P n;
    at_most = λ i l. starts-most P n l i;
  }

-- ---- What the call answers

counted_not_refused : {t : Totals} {r : Refusal} → Err r ≡ Ok t → ⊥
counted_not_refused {t} {r} e = let z : ◌≡◌ {A = ℕ} 0 1 = cc in omega arith

abbrev refusal_in : Result Totals Refusal → Refusal
refusal_in (Ok t) = refusal 0 0
refusal_in (Err r) = r

abbrev totals_in : Totals → Result Totals Refusal → Totals
totals_in d (Ok t) = t
totals_in d (Err r) = d

module _ (b : List ℕ) (n : ℕ) where
  abbrev P : Protocol
  P = protocol_in b (header_of b)

  abbrev L : Layers
  L = layers_in b (header_of b)

  abbrev w : ℕ → ℕ → ℕ
  w = weight_in b (header_of b)

  -- The sheet, by what the check says and by test 34.
  passed_back : (r : Refusal) → check_of b ≡ Err r → sheet_of b n ≡ refused_sheet r
  passed_back r e = sym (sheet_refused b n (refused_sheet r) r e refl)

  on_accepted_lem : IsAccepted b → sheet_of b n ≡ sheet_in P L w n
  on_accepted_lem a = sym (sheet_accepted b n (sheet_in P L w n) (ap is_ok a.1) refl)

  full : IsAccepted b → beyond (inputs_of P) n ≡ false → sheet_of b n ≡ full_sheet P L w n
  full a u = on_accepted_lem a ∙ in_full P L w n false u refl

  not_full : IsAccepted b → beyond (inputs_of P) n ≡ true → sheet_of b n ≡ refused_sheet (refusal 34 0)
  not_full a u = on_accepted_lem a ∙ in_refused P L w n true u refl

  -- One of three holds.
  by_answer : {X : Type 0} → ((r : Refusal) → check_of b ≡ Err r → X) → (IsAccepted b → beyond (inputs_of P) n ≡ true → X)
      → (IsAccepted b → beyond (inputs_of P) n ≡ false → X) → X
  by_answer {X} on-refused on-34 on-full = go (check_of b) refl
    where
      go : (a : Result Summary Refusal) → check_of b ≡ a → X
      go (Ok f) e = by_test (beyond (inputs_of P) n) (on-34 (f, e)) (on-full (f, e))
      go (Err r) e = on-refused r e

  -- The check has no number 34.
  not_34 : (r : Refusal) → check_of b ≡ Err r → r ≡ refusal 34 0 → ⊥
  unfolding is_one_of
  not_34 r q e = true≢false (sym (check-number b) ∙ ap (λ a. is_one_of (check_number a) check_numbers) (q ∙ ap Err e))

  sheet-answers : SheetAnswers b n
  sheet-answers = record {
    counted_is = (
      λ c. by_answer
          (λ r e. absurd (counted_not_refused (sym (ap (λ s. s.tallied) (passed_back r e)) ∙ c.1)))
          (λ a u. absurd (counted_not_refused (sym (ap (λ s. s.tallied) (not_full a u)) ∙ c.1)))
          (λ a u. (a, beyond_none P n u)),
      λ g. (totals_of P L w n, ap (λ s. s.tallied) (full g.0 (none_beyond P n g.1))),
    );
    passed_back = λ r e. ap (λ s. s.tallied) (passed_back r e);
    refusal_34 = (
      λ e. by_answer
          (λ r q. absurd (not_34 r q (ap refusal_in (sym (ap (λ s. s.tallied) (passed_back r q)) ∙ e))))
          (λ a u. (a, λ g. not_both u (none_beyond P n g)))
          (λ a u. absurd (counted_not_refused (sym e ∙ ap (λ s. s.tallied) (full a u)))),
      λ g. by_test (beyond (inputs_of P) n)
          (λ u. ap (λ s. s.tallied) (not_full g.0 u))
          (λ u. absurd (g.1 (beyond_none P n u))),
    );
    refusals = λ r e.
        by_answer
        (λ q c. inl (c ∙ ap Err (ap refusal_in (sym (ap (λ s. s.tallied) (passed_back q c)) ∙ e))))
        (λ a u. inr (sym (ap refusal_in (sym (ap (λ s. s.tallied) (not_full a u)) ∙ e))))
        (λ a u. absurd (counted_not_refused (sym e ∙ ap (λ s. s.tallied) (full a u))));
    no_counts = λ r e.
        by_answer
        (λ q c. ap (λ s. s.first) (passed_back q c))
        (λ a u. ap (λ s. s.first) (not_full a u))
        (λ a u. absurd (counted_not_refused (sym e ∙ ap (λ s. s.tallied) (full a u))));
  }

-- ---- What is counted

-- The docket is accepted, and n is allowed.
module _ (b : List ℕ) (n : ℕ) (accepted : IsAccepted b) (small : Allowed (protocol_in b (header_of b)) n) where
  abbrev P₁ : Protocol
  P₁ = protocol_in b (header_of b)

  abbrev L₁ : Layers
  L₁ = layers_in b (header_of b)

  abbrev w₁ : ℕ → ℕ → ℕ
  w₁ = weight_in b (header_of b)

  good : Runs b (header_of b)
  good = runs_accepted b accepted.0 accepted.1

  lad : Laddered P₁ L₁ w₁
  lad = good.ladder

  module _ (c : List ℕ) (s : StartWith P₁ n c) where
    long : length c ≡ P₁.states
    long = s.sized

    group : Group P₁ c
    group = start_group b (header_of b) good _ refl n small c s

    passes : admitted P₁ c ≡ true
    passes = group_admitted b (header_of b) good c group

    ran : RunList P₁ L₁ (size c * spreads P₁ L₁ w₁) c (rest_numbers P₁ L₁ w₁ c)
    unfolding rest_numbers
    ran = run_numbers_is P₁ lad.partition (size c * spreads P₁ L₁ w₁) c

    rested : terminal P₁ (after P₁ c (rest_numbers P₁ L₁ w₁ c)) ≡ true
    unfolding rest_of
    rested = rest-terminal P₁ lad c long

    -- A run of any limit that the steps keep to.
    any_limit : (limit : ℕ) → steps_to_rest P₁ L₁ w₁ c ≤ limit → run_numbers P₁ L₁ limit c ≡ rest_numbers P₁ L₁ w₁ c
    unfolding rest_numbers steps_to_rest
    any_limit limit l =
        let k = steps_to_rest P₁ L₁ w₁ c in
        let same : run_numbers P₁ L₁ k c ≡ rest_numbers P₁ L₁ w₁ c = exact_limit P₁ L₁ (size c * spreads P₁ L₁ w₁) c in
        rests_on_lem P₁ lad.partition k limit c l (ap (λ rs. terminal P₁ (after P₁ c rs)) same ∙ rested) ∙ same

    -- Run calls until rest.
    by_calls : (limits : List ℕ) → terminal P₁ (last_on b c (map run limits)) ≡ true
        → (last_on b c (map run limits) ≡ rest_of P₁ L₁ w₁ c) × (reported_on b c (map run limits) ≡ steps_to_rest P₁ L₁ w₁ c)
    unfolding steps_to_rest
    by_calls limits t =
        let last = same_last b (header_of b) good.sound c (map run limits) in
        let total = same_reported b (header_of b) good.sound c (map run limits) in
        let made = runs_to_calls P₁ lad.partition lad.formed c limits passes in
        let end = sym (ap (terminal P₁) last) ∙ t in (
          last ∙ sym (rest_stands P₁ lad c _ _ made long end),
          total ∙ sym (rest-steps P₁ lad c _ _ made long end),
        )

    reaches : (limit : ℕ) → 0 < limit → (k : ℕ) × (terminal P₁ (last_on b c (map run (replicate k limit))) ≡ true)
    reaches limit l =
        let k = rank P₁ L₁ w₁ c in
        (k, ap (terminal P₁) (same_last b (header_of b) good.sound c (map run (replicate k limit))) ∙ runs_rest P₁ lad limit l k c passes (omega arith))

    consensus : (v : Bool) × ((d : List ℕ) → Reaches P₁ c d → terminal P₁ d ≡ true → Shows P₁ v d)
    consensus = ((of_docket b).ws² accepted).consensus c (as_start P₁ n small.least c s)

    shows : (rs : List ℕ) → terminal P₁ (after P₁ c rs) ≡ true → Shows P₁ consensus.0 (after P₁ c rs)
    shows rs t = consensus.1 (after P₁ c rs) (rs, refl) t

    -- It is counted for its output.
    counted : (v : Bool) → rests_on P₁ L₁ w₁ v c ≡ beq consensus.0 v
    unfolding rests_on rest_of
    counted v =
        let d = rest_of P₁ L₁ w₁ c in
        let some : 0 < size d = omega (arith, size-after P₁ lad.formed c (rest_numbers P₁ L₁ w₁ c) long, s.agents, small.least) in
        ap (is_agreed v) ((output_is P₁ d (length-after P₁ c (rest_numbers P₁ L₁ w₁ c) ∙ long) some consensus.0).1 (shows (rest_numbers P₁ L₁ w₁ c) rested))

    steps_small : steps_to_rest P₁ L₁ w₁ c ≤ 1024192000000
    unfolding steps_to_rest
    steps_small = omega (arith, ran.kept, bound_small b (header_of b) good c group)

    start_rests : StartRests b c
    unfolding steps_to_rest
    start_rests = record {
      passes = passes;
      small = group.small;
      reaches = reaches;
      rests = rest-terminal P₁ lad c long;
      bound = ran.kept;
      is_run = any_limit;
      by_calls = by_calls;
      output = consensus.0;
      shows = shows;
      counted = counted;
    }

  abbrev number : ℕ
  number = length (starts P₁ n)

  start_at_lem : (k : ℕ) → k < number → StartRests b (start_at P₁ n k)
  start_at_lem k l = start_rests (start_at P₁ n k) (each_start P₁ n k l)

  -- Each start rests on 0 or on 1, and not on both.
  one_of_two : (o : Bool) → bit (beq o false) + bit (beq o true) ≡ 1
  one_of_two true = refl
  one_of_two false = refl

  together : resting_on P₁ L₁ w₁ n false number + resting_on P₁ L₁ w₁ n true number ≡ number
  unfolding resting_on
  together =
      let on : Bool → ℕ → ℕ = λ v k. bit (rests_on P₁ L₁ w₁ v (start_at P₁ n k)) in
      omega (
        arith,
        sum_add number (on false) (on true),
        sum_same number (λ k. on false k + on true k) (λ _. 1)
            (λ k l. let s = start_at_lem k l in omega (arith, ap bit (s.counted false), ap bit (s.counted true), one_of_two s.output)),
        sum_const 1 number,
      )

  some : 0 < number
  some =
      let has = good.sound.sections.formed.some_input in
      let s = first_is P₁ has n in
      (first-place P₁ n (first_start P₁ n) s.0 s.1).0

  most_long : length (first_most P₁ L₁ w₁ n) ≡ P₁.states
  unfolding first_most
  most_long = (each_start P₁ n _ (place_lt number (steps_at P₁ L₁ w₁ n) some)).sized

  place_small : steps_at P₁ L₁ w₁ n (first_greatest number (steps_at P₁ L₁ w₁ n)) ≤ 1024192000000
  unfolding steps_at
  place_small = steps_small _ (each_start P₁ n _ (place_lt number (steps_at P₁ L₁ w₁ n) some))

  totals_full : TotalsAre b n (totals_of P₁ L₁ w₁ n) (full_sheet P₁ L₁ w₁ n).first
  unfolding resting_on steps_at first_most
  totals_full =
      let f = steps_at P₁ L₁ w₁ n in
      let zeros = replicate {A = ℕ} (64 - P₁.states) 0 in
      record {
        states = refl;
        number = refl;
        each = start_at_lem;
        zeros = refl;
        ones = refl;
        together = together;
        most = le_greatest number f;
        place = first_greatest number f;
        within = place_lt number f some;
        needs = place-greatest number f some;
        earlier = place-first number f;
        most_small = omega (arith, place-greatest number f some, place_small);
        counts = ap (λ k. take k (first_most P₁ L₁ w₁ n ++ zeros)) (sym most_long) ∙ take-append_seam (first_most P₁ L₁ w₁ n) zeros;
        behind = ap (λ k. drop k (first_most P₁ L₁ w₁ n ++ zeros)) (sym most_long) ∙ drop-append_seam (first_most P₁ L₁ w₁ n) zeros;
      }

totals_are : (b : List ℕ) (n : ℕ) (t : Totals) → (sheet_of b n).tallied ≡ Ok t → TotalsAre b n t (sheet_of b n).first
totals_are b n t e =
    let g = (sheet-answers b n).counted_is.0 (t, e) in
    let is = full b n g.0 (none_beyond (protocol_in b (header_of b)) n g.1) in
    let same = ap (totals_in t) (sym (ap (λ s. s.tallied) is) ∙ e) in
    subst (λ x. TotalsAre b n x (sheet_of b n).first) same
    (subst (TotalsAre b n (totals_of (protocol_in b (header_of b)) (layers_in b (header_of b)) (weight_in b (header_of b)) n)) (sym (ap (λ s. s.first) is)) (totals_full b n g.0 g.1))

pub of_totals : OfTotals
of_totals = record { starts_are = starts_are; answers = sheet-answers; totals_are = totals_are }
