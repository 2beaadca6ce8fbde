-- What is proved of the call that runs the groups of a page (document 02, Job 8), for every docket with bytes b, counts c, limit
-- and results r as they are lent. Statements only; proofs/OfPage/ proves them. The contracts of the code say that the call answers
-- page_of b c r, and leaves counts_after_page b c limit r and results_after_page b c limit r.
use Rattle.refusals.specs.declared.Refusal.{Refusal}
use Rattle.refusals.specs.Refusal.{refusal}
use Rattle.std.specs.Prelude.{◌≡◌, Bool, true, false, List, [], ◌∷◌, ◌++◌, map, ◌↔◌, ℕ, ◌+◌, ◌*◌, ◌/◌, ◌%◌, ◌≤◌, ◌<◌, eqb, length, get_or, Ok, Err, Some}
use Rattle.theory.specs.Bool.{bit}
use Rattle.theory.specs.Judge.{Test, Passes, FirstFits}
use Rattle.theory.specs.Protocol.{size, terminal, Start}
use Rattle.theory.specs.Ladder.{spreads}
use Rattle.theory.specs.Machine.{Call, run, Reply, ran, refused, is_within, admitted}
use Rattle.theory.specs.Claims.{Rests, OneOutput}
use Rattle.format.specs.Format.{header_of, protocol_in, layers_in, weight_in}
use Rattle.format.specs.declared.Header.{Header}
use Rattle.shape.specs.Shape.{shape_tests, shape_of}
use Rattle.shape.specs.Sound.{SoundShape}
use Rattle.machine.specs.Calls.{verdict_of, reply_of, counts_of}
use Rattle.page.specs.Page.{part_at, result_of, page_tests, page_of, counts_after_page, results_after_page}
use Rattle.codes.specs.Codes.{answer_code}
use Rattle.claims.specs.OfDocket.{IsAccepted, last_on, reported_on}

-- How many groups the counts c have where the header is h, and group g of them, from 0 on.
abbrev pub groups_in : Header → List ℕ → ℕ
groups_in h c = length c / h.sizes.states

abbrev pub group_in : Header → List ℕ → ℕ → List ℕ
group_in h c g = part_at h.sizes.states c g

-- The counts c are those of g groups, of which there is one at least.
abbrev pub AreGroups : Header → List ℕ → ℕ → Type 0
AreGroups h c g = (0 < g) × (length c ≡ g * h.sizes.states)

-- The two results of group g among the results d.
abbrev pub first : List ℕ → ℕ → ℕ
first d g = get_or d (2 * g) 0

abbrev pub second : List ℕ → ℕ → ℕ
second d g = get_or d (2 * g + 1) 0

-- ---- What the call answers

module _ (b c r : List ℕ) where
  -- Tests 1 to 8, with 14, then 32 and 33.
  abbrev pub tests_of_page : List Test
  tests_of_page = let h = header_of b in shape_tests b h ++ page_tests h.sizes.states (length c) (length r)

  -- What the call answers.
  pub record PageAnswers : Type 0 where
    -- Done just where all tests pass; else the refusal that is the first to fit.
    pub done_is : (page_of b c r ≡ Ok tt) ↔ Passes tests_of_page
    pub refusal_is : (n k : ℕ) → (page_of b c r ≡ Err (refusal n k)) ↔ FirstFits tests_of_page n k
    -- A refusal of tests 1 to 8 is passed back.
    pub passed_back : (q : Refusal) → shape_of b ≡ Err q → page_of b c r ≡ Err q
    -- On a docket that passes them, 32 just where the counts are no whole number of groups, or none; 33 just where they are, and
    -- the results are not two numbers for each group; else the call is done.
    pub refusal_32 : (h : Header) → SoundShape b h → (page_of b c r ≡ Err (refusal 32 0)) ↔ ((g : ℕ) → AreGroups h c g → ⊥)
    pub refusal_33 : (h : Header) → SoundShape b h → (page_of b c r ≡ Err (refusal 33 0)) ↔ ((g : ℕ) × AreGroups h c g × (length r ≡ 2 * g → ⊥))
    pub done_in_words : (h : Header) → SoundShape b h → (page_of b c r ≡ Ok tt) ↔ ((g : ℕ) × AreGroups h c g × (length r ≡ 2 * g))
    -- A refused call leaves both buffers as they were.
    pub unchanged : (q : Refusal) (limit : ℕ) → page_of b c r ≡ Err q → (counts_after_page b c limit r ≡ c) × (results_after_page b c limit r ≡ r)
    -- In C: 0 just where the call is done. The place of a refusal is below 65,536, so the code tells number and place.
    pub code : (answer_code (page_of b c r) ≡ 0) ↔ (page_of b c r ≡ Ok tt)
    pub place : (n k : ℕ) → page_of b c r ≡ Err (refusal n k) → k < 65536

-- ---- What a call that is done leaves, on a docket with header h

module _ (b : List ℕ) (h : Header) (c : List ℕ) (limit : ℕ) (r : List ℕ) where
  -- The counts and the results afterwards; and what the run call says of the counts of group g alone.
  abbrev counts : List ℕ
  counts = counts_after_page b c limit r

  abbrev results : List ℕ
  results = results_after_page b c limit r

  abbrev said : ℕ → Reply
  said g = reply_of b (group_in h c g) (run limit)

  -- What becomes of group g.
  pub record GroupRuns (g : ℕ) : Type 0 where
    -- The outcome is that of the run call on its counts alone.
    pub left : group_in h counts g ≡ counts_of b (group_in h c g) (run limit)
    pub of_refused : (n k : ℕ) → said g ≡ refused n k → (first results g ≡ n) × (second results g ≡ 0)
    pub of_ran : (n : ℕ) (rests : Bool) → said g ≡ ran n rests → (first results g ≡ 0) × (second results g ≡ 2 * n + bit rests)
    -- A group is refused by 21 only, just where its size is not 2 to 1,000,000. Then it keeps its counts, and its second result is 0.
    pub refused_is : (first results g ≡ 21) ↔ (is_within (group_in h c g) ≡ false)
    pub not_refused_is : (first results g ≡ 0) ↔ (is_within (group_in h c g) ≡ true)
    pub kept : first results g ≡ 21 → (second results g ≡ 0) × (group_in h counts g ≡ group_in h c g)
    -- Otherwise the second result tells the steps and whether it rests, which it says just at a standstill.
    pub ran_is : first results g ≡ 0 → said g ≡ ran (second results g / 2) (eqb (second results g % 2) 1)
    pub rests_is : first results g ≡ 0 → (second results g % 2 ≡ 1) ↔ (terminal (protocol_in b h) (group_in h counts g) ≡ true)
    -- It is at most twice the limit plus 1: 33 bits, where the limit has 32.
    pub limited : second results g ≤ 2 * limit + 1

  -- What becomes of both buffers.
  pub record PageRuns : Type 0 where
    pub counts_length : length counts ≡ length c
    pub results_length : length results ≡ length r
    pub each : (g : ℕ) → g < groups_in h c → GroupRuns g
    -- Nothing else changes: a buffer of the same length in which every group is as the run call leaves it is the counts afterwards, and
    -- likewise the results.
    pub counts_only : (d : List ℕ) → length d ≡ length c → ((g : ℕ) → g < groups_in h c → group_in h d g ≡ counts_of b (group_in h c g) (run limit)) → d ≡ counts
    pub results_only : (d : List ℕ) → length d ≡ length r → ((g : ℕ) → g < groups_in h c → part_at 2 d g ≡ result_of (said g)) → d ≡ results

-- ---- Calls in a row, each on the counts and the results that the one before it left; each has its limit

-- The counts that page calls in a row leave, one call for each limit.
unfoldable pub after_pages : List ℕ → List ℕ → List ℕ → List ℕ → List ℕ
after_pages b c r [] = c
after_pages b c r (limit ∷ limits) = after_pages b (counts_after_page b c limit r) (results_after_page b c limit r) limits

-- The steps of group g in these calls: the sum of its second results, each halved.
unfoldable pub steps_on_pages : List ℕ → List ℕ → List ℕ → ℕ → List ℕ → ℕ
steps_on_pages b c r g [] = 0
steps_on_pages b c r g (limit ∷ limits) =
    let d = results_after_page b c limit r in
    second d g / 2 + steps_on_pages b (counts_after_page b c limit r) d g limits

module _ (b : List ℕ) (h : Header) (c r : List ℕ) (g : ℕ) where
  -- Group g after the calls.
  abbrev pub group_after : List ℕ → List ℕ
  group_after limits = group_in h (after_pages b c r limits) g

  -- Of group g, the calls are run calls on its counts alone.
  pub record PagesAreRuns : Type 0 where
    pub left : (limits : List ℕ) → group_after limits ≡ last_on b (group_in h c g) (map run limits)
    pub steps : (limits : List ℕ) → steps_on_pages b c r g limits ≡ reported_on b (group_in h c g) (map run limits)

  -- Demand 3 of group g, where the docket is accepted.
  pub record PagesSettle : Type 0 where
    -- Size, quiet layers, the rest bound and the rank, after each call. Every list of these calls is layered. In the middle of a call
    -- quiet layers stay quiet by PagesAreRuns, and quiet_within of OfDocket.
    pub rests : Rests (protocol_in b h) (layers_in b h) (weight_in b h) (group_in h c g) group_after (steps_on_pages b c r g) (λ _. true)
    -- Where the group is not refused, a limit of the rest bound, or more, is enough for rest.
    pub enough : is_within (group_in h c g) ≡ true → (limit : ℕ)
        → size (group_in h c g) * spreads (protocol_in b h) (layers_in b h) (weight_in b h) ≤ limit → second (results_after_page b c limit r) g % 2 ≡ 1
    -- From a start all lists of calls that end terminal have one output.
    pub one_output : OneOutput (protocol_in b h) (group_in h c g) group_after

-- A start x has one output (document 01: verdict): by step and run calls on its counts alone, and on every page that has as a group what such calls left, at
-- every place and whatever the limits. So a group may be taken from one page to another between calls.
pub record StartOutput (b : List ℕ) (h : Header) (x : List ℕ) : Type 0 where
  pub output : Bool
  pub on_pages : (xs : List Call) (c r : List ℕ) (g : ℕ) (limits : List ℕ) → page_of b c r ≡ Ok tt → g < groups_in h c → group_in h c g ≡ last_on b x xs
      → terminal (protocol_in b h) (group_after b h c r g limits) ≡ true → verdict_of b (group_after b h c r g limits) ≡ Ok (Some output)
  pub by_calls : (xs : List Call) → terminal (protocol_in b h) (last_on b x xs) ≡ true → verdict_of b (last_on b x xs) ≡ Ok (Some output)

-- The claims about pages.
pub record OfPage : Type 0 where
  pub answers : (b c r : List ℕ) → PageAnswers b c r
  pub runs : (b : List ℕ) (h : Header) → SoundShape b h → (c : List ℕ) (limit : ℕ) (r : List ℕ) → page_of b c r ≡ Ok tt → PageRuns b h c limit r
  -- A call that is done is done again, with any limit, on what it left.
  pub again : (b c r : List ℕ) (limit : ℕ) → page_of b c r ≡ Ok tt → page_of b (counts_after_page b c limit r) (results_after_page b c limit r) ≡ Ok tt
  -- What the results hold before the call does not matter, only how many there are.
  pub old_results : (b c r r' : List ℕ) (limit : ℕ) → length r' ≡ length r
      → (page_of b c r' ≡ page_of b c r) × (counts_after_page b c limit r' ≡ counts_after_page b c limit r)
      × (page_of b c r ≡ Ok tt → results_after_page b c limit r' ≡ results_after_page b c limit r)
  pub in_a_row : (b : List ℕ) (h : Header) → SoundShape b h → (c r : List ℕ) → page_of b c r ≡ Ok tt → (g : ℕ) → g < groups_in h c → PagesAreRuns b h c r g
  pub settles : (b : List ℕ) → IsAccepted b → (c r : List ℕ) → page_of b c r ≡ Ok tt
      → (g : ℕ) → g < groups_in (header_of b) c → PagesSettle b (header_of b) c r g
  pub start_output : (b : List ℕ) → IsAccepted b → (x : List ℕ) → Start (protocol_in b (header_of b)) x → admitted (protocol_in b (header_of b)) x ≡ true
      → StartOutput b (header_of b) x
