-- What is proved of every docket: its bytes b, and counts c lent with it. Statements only, to be laid beside document 01, and
-- beside document 02 for what its Jobs changed; the record OfDocket at the end says what is proved, and proofs/OfDocket/ proves it.
-- The protocol of a docket with header h is protocol_in b h, its layers are layers_in b h, their weights weight_in b h. What is
-- said of lists of rule numbers and of calls is stated in theory's Claims, over what the machine says of the bytes here.
use Rattle.refusals.specs.declared.Refusal.{Refusal}
use Rattle.refusals.specs.Refusal.{refusal}
use Rattle.std.specs.Prelude.{◌≡◌, Bool, true, false, cond, List, [], ◌∷◌, ◌++◌, ◌↔◌, ◌⊎◌, ℕ, ◌+◌, ◌≤◌, ◌<◌, length, ltb, ℤ, pos, ◌-ℤ◌, ◌≤ℤ◌, Ok, Err, Some, None}
use Rattle.theory.specs.Judge.{Test, Passes, FirstFits}
use Rattle.theory.specs.Protocol.{Protocol, enabled, terminal, Shows, StartRule, Start, Unfixed, fires, after, meetings}
use Rattle.theory.specs.Pairs.{pairs}
use Rattle.theory.specs.Ladder.{Layers, handover, Broken, layered, Laddered}
use Rattle.theory.specs.Facts.{Facts}
use Rattle.theory.specs.Leaf.{leaf_closes, signed, LeafRule}
use Rattle.theory.specs.Remainder.{remainder_closes, RemainderRule}
use Rattle.theory.specs.Tree.{Tree, Assumption, disagreement}
use Rattle.theory.specs.Subtree.{TreeStands, TreeFails}
use Rattle.theory.specs.Machine.{Call, step, run, Reply, stepped, ran, refused, meetings_of, is_sized, is_within, admitted}
use Rattle.theory.specs.Claims.{Certified, AsPublished, LayersAre, LayeredBy, WS², WS³, Rests, OneOutput, AllRefused, CallsMake, CallsRest, Rank}
use Rattle.format.specs.Format.{header_of, sections_of, protocol_in, layers_in, weight_in, biased, end_weight, tree_of, weights_of}
use Rattle.format.specs.declared.Header.{Header}
use Rattle.shape.specs.Shape.{shape_tests, shape_of}
use Rattle.shape.specs.Sound.{SoundShape}
use Rattle.checker.specs.Check.{certificate_tests, summary_of, check_of}
use Rattle.checker.specs.declared.Summary.{Summary}
use Rattle.machine.specs.Calls.{start_of, pairs_of, terminal_of, verdict_of, reply_of, counts_of}
use Rattle.codes.specs.Codes.{code, call_code, check_code, answer_code, reply_code}

-- ---- Demand 1: what every call says, for every file, counts and number. The contracts of the code say that each call answers
-- by the definition named here: start_of, pairs_of, terminal_of, verdict_of, reply_of, counts_of, check_of.

module _ (b c : List ℕ) where
  -- How every machine call answers: a is its answer, refuse r the answer that refuses by r. A refusal of tests 1 to 8 is passed
  -- back; then counts are refused by 20, then by 21, both at place 0; else Own holds of the docket's protocol.
  pub record CallSays {A : Type 0} (a : A) (refuse : Refusal → A) (Own : Protocol → Type 0) : Type 0 where
    pub passed_back : (r : Refusal) → shape_of b ≡ Err r → a ≡ refuse r
    pub not_sized : (h : Header) → SoundShape b h → is_sized (protocol_in b h) c ≡ false → a ≡ refuse (refusal 20 0)
    pub not_within : (h : Header) → SoundShape b h → is_sized (protocol_in b h) c ≡ true → is_within c ≡ false → a ≡ refuse (refusal 21 0)
    pub own : (h : Header) → SoundShape b h → admitted (protocol_in b h) c ≡ true → Own (protocol_in b h)

  -- State s is the lowest that is against the start rule.
  pub record LowestUnfit (P : Protocol) (s : ℕ) : Type 0 where
    pub state : s < P.states
    pub against : StartRule P c s → ⊥
    pub lowest_state : (t : ℕ) → t < s → StartRule P c t

  -- Step and run pass back a refusal as theirs.
  abbrev pub pass_back : Refusal → Reply
  pass_back r = refused r.number r.place

  -- Demand 1, but for what is part of every function's proof: that it ends, and uses only what it was lent.
  pub record Demand1 : Type 0 where
    -- What passes tests 1 to 8 has a sound shape, and nothing else has; a refusal of these tests is the first of them that fits.
    pub shape_sound_is : (h : Header) → (shape_of b ≡ Ok h) ↔ SoundShape b h
    pub shape_refusal_is : (n k : ℕ) → (shape_of b ≡ Err (refusal n k)) ↔ FirstFits (shape_tests b (header_of b)) n k
    -- The start test: a start, or 22 at the lowest unfit state.
    pub start : CallSays (start_of b c) Err (λ P.
        ((start_of b c ≡ Ok tt) ↔ Start P c)
        × ((s : ℕ) → (start_of b c ≡ Err (refusal 22 s)) ↔ LowestUnfit P s))
    -- The number of pairs of workers that could make the meeting of rule r (OfPairs says more of it), or 23 at the number given.
    pub can_act : (r : ℕ) → CallSays (pairs_of b c r) Err (λ P.
        (r < P.rules → pairs_of b c r ≡ Ok (pairs P c r))
        × (P.rules ≤ r → pairs_of b c r ≡ Err (refusal 23 r)))
    pub standstill : CallSays (terminal_of b c) Err (λ P. terminal_of b c ≡ Ok (terminal P c))
    -- The verdict v just where all occupied states have it, else mixed.
    pub verdict : CallSays (verdict_of b c) Err (λ P.
        ((v : Bool) → (verdict_of b c ≡ Ok (Some v)) ↔ Shows P v c)
        × ((verdict_of b c ≡ Ok None) ↔ ((v : Bool) → Shows P v c → ⊥)))
    -- A step: its meeting, 23 where its number names no rule, 24 where the rule cannot act.
    pub of_step : (r : ℕ) → CallSays (reply_of b c (step r)) pass_back (λ P.
        (fires P c r ≡ true → reply_of b c (step r) ≡ stepped)
        × (P.rules ≤ r → reply_of b c (step r) ≡ refused 23 r)
        × (r < P.rules → enabled P c r ≡ false → reply_of b c (step r) ≡ refused 24 r))
    -- A run is then never refused; calls_on_sound says what its numbers are.
    pub of_run : (limit : ℕ) → CallSays (reply_of b c (run limit)) pass_back (λ P.
        (n : ℕ) × (rests : Bool) × (reply_of b c (run limit) ≡ ran n rests))
    -- A refused step or run leaves the counts as they are; the other calls are lent the counts for reading only.
    pub unchanged : (x : Call) (n k : ℕ) → reply_of b c x ≡ refused n k → counts_of b c x ≡ c

-- ---- Demand 2: the check accepts a docket just where it keeps every rule

module _ (b : List ℕ) (h : Header) where
  -- Rule r lowers: its layer's weights of p and q together exceed those of p' and q'.
  abbrev pub Lowers : ℕ → Type 0
  Lowers r =
      let P = protocol_in b h in
      let w = weight_in b h ((layers_in b h).of r) in
      w (P.p' r) + w (P.q' r) < w (P.p r) + w (P.q r)

  -- Every leaf weight, of leaf l and state s at end e + 1, is -10,000 to 10,000; end_weight is the weight plus 10,000.
  abbrev pub LeafWeights : Type 0
  LeafWeights = (l e s : ℕ) → l < h.sizes.leaves → e < 2 → s < h.sizes.states
      → end_weight h.sizes (sections_of b h).leaves l e s ≤ 20000

  -- The tree, and what it refutes: that from one start run 1 ends with a state of output 0 and run 2 with a state of output 1.
  abbrev pub tree_in : Tree
  tree_in = tree_of h.sizes (sections_of b h).nodes

  abbrev pub assumed : Assumption
  assumed = disagreement (protocol_in b h) (weights_of h.sizes (sections_of b h).leaves)

  -- The bytes b, with header h, keep every rule of document 01, as the Jobs of document 02 that are landed have it: rules are
  -- distinct in all four states (Job 1), a tree may have nodes of kind 7 (Job 2), and a docket of version 2 may have fixed
  -- workers (Job 4) and has its rules in order (Job 5).
  pub record Rules : Type 0 where
    -- Tests 1 to 8, with 14.
    pub shape : SoundShape b h
    -- Test 9: lowering.
    pub lowering : (r : ℕ) → r < h.sizes.rules → Lowers r
    -- Test 10, handover: no group, of any size, breaks it.
    pub handover : (s : ℕ) → s < h.sizes.rules → Broken (protocol_in b h) (layers_in b h) s → ⊥
    -- Test 11.
    pub leaf_weights : LeafWeights
    -- Tests 12 and 13: the root's subtree, on fresh facts, ends behind the last node.
    pub tree : TreeStands (protocol_in b h) assumed tree_in

  -- Tests 1 to 11, with 14, in order: each has a number, places, and says which of its places are bad.
  abbrev pub tests_in : List Test
  tests_in = shape_tests b h ++ certificate_tests h.sizes (sections_of b h)

-- The check accepts b.
abbrev pub IsAccepted : List ℕ → Type 0
IsAccepted b = (f : Summary) × (check_of b ≡ Ok f)

-- Demand 2.
pub record Demand2 (b : List ℕ) : Type 0 where
  -- A docket is accepted if it keeps every rule, and not otherwise.
  pub exact : IsAccepted b ↔ ((h : Header) × Rules b h)
  -- What is said of a docket that keeps every rule is its summary, S R L N W M.
  pub summary : (h : Header) → Rules b h → check_of b ≡ Ok (summary_of h.sizes (sections_of b h))
  -- A docket that is refused does not keep every rule.
  pub refusals : (n k : ℕ) → check_of b ≡ Err (refusal n k) → (h : Header) → Rules b h → ⊥
  -- A refusal is given just where it is the first of tests 1 to 11, with 14, that fits, or where none of these fits and
  -- the walk gives it.
  pub refusal_is : (n k : ℕ) → let h = header_of b in
      (check_of b ≡ Err (refusal n k))
      ↔ (FirstFits (tests_in b h) n k ⊎ (Passes (tests_in b h) × TreeFails (protocol_in b h) (assumed b h) (tree_in b h) n k))
  -- The handover test is exact: it passes just where no group breaks the handover.
  pub handover_exact : (h : Header) → SoundShape b h → let P = protocol_in b h in let L = layers_in b h in
      (handover P L ≡ true) ↔ ((s : ℕ) → s < h.sizes.rules → Broken P L s → ⊥)
  -- A refusal by 10 points at the lowest rule at which some group breaks the handover.
  pub handover_broken : (s : ℕ) → check_of b ≡ Err (refusal 10 s) → let h = header_of b in Broken (protocol_in b h) (layers_in b h) s
  pub handover_lowest : (s : ℕ) → check_of b ≡ Err (refusal 10 s) → let h = header_of b in
      (u : ℕ) → u < s → Broken (protocol_in b h) (layers_in b h) u → ⊥
  -- The protocol of a docket that keeps every rule has a certificate, and the docket's own ladder passes; that its own tree
  -- stands is in Rules.
  pub certified : (h : Header) → Rules b h → Certified (protocol_in b h)
  pub laddered : (h : Header) → Rules b h → Laddered (protocol_in b h) (layers_in b h) (weight_in b h)

-- ---- Demand 3: lists of rule numbers, and lists of step and run calls

-- The counts that a list of calls on the bytes b leaves, from counts c, each call on the counts that the one before it left.
unfoldable pub last_on : List ℕ → List ℕ → List Call → List ℕ
last_on b c [] = c
last_on b c (x ∷ xs) = last_on b (counts_of b c x) xs

-- What a list of calls on the bytes b, from counts c, reports: the steps not refused plus the totals that the runs return.
unfoldable pub reported_on : List ℕ → List ℕ → List Call → ℕ
reported_on b c [] = 0
reported_on b c (x ∷ xs) = meetings_of (reply_of b c x) + reported_on b (counts_of b c x) xs

module _ (b : List ℕ) (h : Header) (c : List ℕ) where
  abbrev P : Protocol
  P = protocol_in b h

  abbrev L : Layers
  L = layers_in b h

  abbrev w : ℕ → ℕ → ℕ
  w = weight_in b h

  -- Lists of step and run calls on a docket that passes tests 1 to 8, through the machine's own definitions on the bytes.
  pub record CallsOn : Type 0 where
    -- From counts that pass 20 and 21 the calls make a list of rule numbers; on others every one is refused and nothing
    -- changes.
    pub make : admitted P c ≡ true → CallsMake P L c (reply_of b) (last_on b c) (reported_on b c)
    pub refuse : admitted P c ≡ false → AllRefused c (reply_of b) (last_on b c) (reported_on b c) (cond (is_sized P c) 21 20) 0

  -- Demand 3 in one piece, for an accepted docket and every c.
  pub record Demand3 : Type 0 where
    -- Size, quiet layers, the rest bound and the rank: for lists of rule numbers, and for lists of calls in their own counts
    -- and totals.
    pub rests : length c ≡ h.sizes.states → Rests P L w c (after P c) (meetings P c) (layered P L c)
    pub calls_rest : length c ≡ h.sizes.states → CallsRest P L w c (reply_of b) (last_on b c) (reported_on b c)
    -- The rank is 0 just at a standstill, and never exceeds the rest bound.
    pub rank_is : length c ≡ h.sizes.states → Rank P L w c
    -- From every group some layered list ends at a standstill.
    pub some_list : length c ≡ h.sizes.states → (rs : List ℕ) × (layered P L c rs ≡ true) × (terminal P (after P c rs) ≡ true)
    -- From a start, of either version, all lists that end at a standstill have one verdict, and after calls the verdict call
    -- says it.
    pub one_output : OneOutput P c (after P c)
    pub calls_one_output : OneOutput P c (last_on b c)
    pub calls_verdict : Start P c → admitted P c ≡ true
        → (v : Bool) × ((xs : List Call) → terminal P (last_on b c xs) ≡ true → verdict_of b (last_on b c xs) ≡ Ok (Some v))
    pub of_calls : CallsOn

-- ---- What C sees

-- 0 for accepted or not refused; else a number that tells the refusal's number and place.
pub record CodesTell (b c : List ℕ) : Type 0 where
  pub check : (check_code (check_of b) ≡ 0) ↔ IsAccepted b
  pub start : (answer_code (start_of b c) ≡ 0) ↔ (start_of b c ≡ Ok tt)
  pub can_act : (r : ℕ) → (answer_code (pairs_of b c r) ≡ 0) ↔ ((n : ℕ) × (pairs_of b c r ≡ Ok n))
  pub standstill : (answer_code (terminal_of b c) ≡ 0) ↔ ((t : Bool) × (terminal_of b c ≡ Ok t))
  pub verdict : (answer_code (verdict_of b c) ≡ 0) ↔ ((r : Refusal) → verdict_of b c ≡ Err r → ⊥)
  pub of_call : (x : Call) → (reply_code (reply_of b c x) ≡ 0) ↔ ((n k : ℕ) → reply_of b c x ≡ refused n k → ⊥)
  -- The place of a refusal of the check is below 65,536, so the code tells number and place.
  pub check_place : (n k : ℕ) → check_of b ≡ Err (refusal n k) → k < 65536
  pub check_tells : (n k m j : ℕ) → k < 65536 → j < 65536 → code (refusal n k) ≡ code (refusal m j) → (n ≡ m) × (k ≡ j)
  -- The place of a refusal of another call is below 65,536 too, or it is the number that the call was given, which in C has 32
  -- bits.
  pub start_place : (n k : ℕ) → start_of b c ≡ Err (refusal n k) → k < 65536
  pub can_act_place : (r n k : ℕ) → pairs_of b c r ≡ Err (refusal n k) → (k < 65536) ⊎ (k ≡ r)
  pub standstill_place : (n k : ℕ) → terminal_of b c ≡ Err (refusal n k) → k < 65536
  pub verdict_place : (n k : ℕ) → verdict_of b c ≡ Err (refusal n k) → k < 65536
  pub call_place : (x : Call) (n k : ℕ) → reply_of b c x ≡ refused n k → (k < 65536) ⊎ (x ≡ step k)
  pub call_tells : (n k m j : ℕ) → k < 4294967296 → j < 4294967296 → call_code (refusal n k) ≡ call_code (refusal m j) → (n ≡ m) × (k ≡ j)

-- ---- What is proved of every docket

-- The signed number that 16 bits v stand for.
abbrev pub number16 : ℕ → ℤ
number16 v = cond (ltb v 32768) (pos v) (pos v -ℤ pos 65536)

-- The claims about a docket's bytes b, whatever they are.
pub record OfDocket (b : List ℕ) : Type 0 where
  pub demand_1 : (c : List ℕ) → Demand1 b c
  pub demand_2 : Demand2 b
  pub demand_3 : IsAccepted b → (c : List ℕ) → Demand3 b (header_of b) c
  pub codes_tell : (c : List ℕ) → CodesTell b c
  -- Calls on a docket that is not accepted: where it passes tests 1 to 8 they make lists all the same; where it does not, all
  -- are refused with the number and place of the check.
  pub calls_on_sound : (h : Header) → SoundShape b h → (c : List ℕ) → CallsOn b h c
  pub calls_on_others : (n k : ℕ) → shape_of b ≡ Err (refusal n k) → (c : List ℕ)
      → AllRefused c (reply_of b) (last_on b c) (reported_on b c) n k
  -- The protocol of an accepted docket is well specified: in the class WS³ of the paper, with starts for its initial
  -- configurations, and so in WS². Its Layered Termination is by the docket's own layers.
  pub ws³ : IsAccepted b → WS³ (protocol_in b (header_of b))
  pub ws² : IsAccepted b → WS² (protocol_in b (header_of b))
  pub layered_by : IsAccepted b → LayeredBy (protocol_in b (header_of b)) (layers_in b (header_of b))
  -- On a docket that passes tests 1 to 8, can act, acting, standstill, verdict, trap, siphon and, without fixed workers, start
  -- are what document 01 and the paper call so.
  pub definitions : (h : Header) → SoundShape b h → (c : List ℕ) → length c ≡ h.sizes.states → AsPublished (protocol_in b h) c
  -- So are active, quiet, lowest, layered and spread.
  pub layer_words : (h : Header) → SoundShape b h → (c : List ℕ) → LayersAre (protocol_in b h) (layers_in b h) (weight_in b h) c
  -- A docket of version 1 has no fixed workers, so its starts are the paper's initial configurations (start_is).
  pub version_1 : (h : Header) → h.sizes.version ≡ 1 → Unfixed (protocol_in b h)
  -- A leaf weight within its limits is the signed number that stands in the file as 16 bits v, and just these are within them.
  pub weight_is : (v : ℕ) → v < 65536 → biased v ≤ 20000 → signed (biased v) ≡ number16 v
  pub weight_within : (v : ℕ) → v < 65536 → (biased v ≤ 20000) ↔ (((pos 0 -ℤ pos 10000) ≤ℤ number16 v) × (number16 v ≤ℤ pos 10000))
  -- The leaf rule of kind 0 is document 01's, in the signed weights of leaf l.
  pub leaf_rule : (h : Header) (F : Facts) (l : ℕ) → let w = weights_of h.sizes (sections_of b h).leaves l in
      (leaf_closes (protocol_in b h) F w ≡ true) ↔ LeafRule (protocol_in b h) F (λ k s. signed (w k s))
  -- The remainder rule of kind 7 is document 02's, in the signed weights of leaf l and the modulus m.
  pub remainder_rule : (h : Header) (F : Facts) (m l : ℕ) → let w = weights_of h.sizes (sections_of b h).leaves l in
      (remainder_closes (protocol_in b h) m F w ≡ true) ↔ RemainderRule (protocol_in b h) F (λ k s. signed (w k s)) m
