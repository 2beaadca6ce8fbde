-- Tests 1 to 8 of document 01, for either version (document 02, Job 4). Each can be laid beside its line of the table in "What
-- a call says". Test 14 (document 02, Job 5) is one of them, tried between 7 and 8.
use Rattle.std.specs.Prelude.{Bool, false, not, ◌||◌, ◌&&◌, List, [], ◌∷◌, ◌++◌, ℕ, zero, suc, ◌+◌, leb, ltb, eqb, length, get_or, Result, Ok, Err}
use Rattle.theory.specs.Below.{any_below}
use Rattle.theory.specs.Judge.{Test, only, judge}
use Rattle.format.specs.Format.{header_of, states_length, rules_length, layers_length, nodes_length, leaves_length, Sections, sections_of}
use Rattle.format.specs.Format.{flags, is_input, fixed_of, rule_layer, rule_of, rule_before, layer_weight}
use Rattle.format.specs.declared.Sizes.{Sizes}
use Rattle.format.specs.declared.Header.{Header}
use Rattle.format.specs.declared.Rule.{Rule}
use Rattle.refusals.specs.declared.Refusal.{Refusal}
use Rattle.refusals.specs.Refusal.{refusal}

-- ---- Tests of the header

-- The k-th of a list of tests.
abbrev pub nth : List Bool → ℕ → Bool
nth ts k = get_or ts k false

-- Test 2: the version v is neither 1 nor 2.
abbrev pub wrong_version : ℕ → Bool
wrong_version v = not (eqb v 1 || eqb v 2)

abbrev pub version_test : ℕ → Test
version_test v = only 2 (wrong_version v)

-- n is outside least to greatest.
abbrev pub outside : ℕ → ℕ → ℕ → Bool
outside least greatest n = ltb n least || ltb greatest n

-- Test 3: the counts (states, rules, layers, nodes, leaves) that are outside their limits. There are 0 layers just when
-- there are 0 rules.
abbrev pub count_faults : Sizes → List Bool
count_faults z =
    outside 2 64 z.states
    ∷ ltb 256 z.rules
    ∷ (ltb 16 z.layers || not (eqb z.layers 0) && eqb z.rules 0 || eqb z.layers 0 && not (eqb z.rules 0))
    ∷ outside 1 2048 z.nodes
    ∷ ltb 128 z.leaves
    ∷ []

-- Test 3, over the counts.
abbrev pub count_test : Sizes → Test
count_test z = record { number = 3; places = 5; bad = nth (count_faults z) }

-- Test 4: the offsets, and the total length, that are not where they belong: each section begins where the one before ends.
abbrev pub offset_faults : Header → List Bool
offset_faults h =
    not (eqb h.at.states 24)
    ∷ not (eqb h.at.rules (h.at.states + states_length h.sizes))
    ∷ not (eqb h.at.layers (h.at.rules + rules_length h.sizes))
    ∷ not (eqb h.at.nodes (h.at.layers + layers_length h.sizes))
    ∷ not (eqb h.at.leaves (h.at.nodes + nodes_length h.sizes))
    ∷ not (eqb h.at.total (h.at.leaves + leaves_length h.sizes))
    ∷ []

-- ---- Properties of one record, of which tests 5 to 8 and 14 are made

-- State s has a bit set besides 0 and 1.
abbrev pub other_bits : Sizes → List ℕ → ℕ → Bool
other_bits z states s = ltb 3 (flags z states s)

-- State s has more than 1,000 fixed agents.
abbrev pub too_many_fixed : Sizes → List ℕ → ℕ → Bool
too_many_fixed z states s = ltb 1000 (fixed_of z states s)

-- Rules x and y have the same before pair.
abbrev pub same_before : Rule → Rule → Bool
same_before x y = eqb x.p y.p && eqb x.q y.q

-- Rules x and y have the same after pair.
abbrev pub same_after : Rule → Rule → Bool
same_after x y = eqb x.p2 y.p2 && eqb x.q2 y.q2

-- Rules e and r are equal in all four states.
abbrev pub same_rule : List ℕ → ℕ → ℕ → Bool
same_rule rules r e = same_before (rule_of rules e) (rule_of rules r) && same_after (rule_of rules e) (rule_of rules r)

-- Rule r does not come after the one before it; the first rule has none before it.
abbrev pub not_after : List ℕ → ℕ → Bool
not_after rules zero = false
not_after rules (suc r) = not (rule_before (rule_of rules r) (rule_of rules (suc r)))

-- Rule r is of layer l.
abbrev pub in_layer : List ℕ → ℕ → ℕ → Bool
in_layer rules l r = eqb (rule_layer rules r) l

-- Layer l's weight of state s, of n states, is over 1,000,000.
abbrev pub too_large : ℕ → List ℕ → ℕ → ℕ → Bool
too_large n layers l s = ltb 1000000 (layer_weight n layers l s)

-- ---- Tests of the records

-- State s has other bits set, or too many fixed agents.
abbrev pub bad_record : Sizes → List ℕ → ℕ → Bool
bad_record z states s = other_bits z states s || too_many_fixed z states s

-- Test 5: at a state, its record is bad; at place S, there is no input state at all.
unfoldable pub bad_state : Sizes → List ℕ → ℕ → Bool
bad_state z states s = ltb s z.states && bad_record z states s || eqb s z.states && not (any_below z.states (is_input z states))

-- Test 6: a state ≥ S, a pair out of order, pairs equal, or a layer ≥ L.
abbrev pub bad_fields : Sizes → Rule → Bool
bad_fields z x =
    leb z.states x.p
    || leb z.states x.q
    || leb z.states x.p2
    || leb z.states x.q2
    || ltb x.q x.p
    || ltb x.q2 x.p2
    || eqb x.p x.p2 && eqb x.q x.q2
    || leb z.layers x.layer

abbrev pub bad_rule : Sizes → List ℕ → ℕ → Bool
bad_rule z rules r = bad_fields z (rule_of rules r)

-- Test 7: an earlier rule is equal in all four states, whatever its layer.
unfoldable pub repeats : List ℕ → ℕ → Bool
repeats rules r = any_below r (same_rule rules r)

-- Test 14, of version 2 alone: the rule does not come after the one before it.
unfoldable pub out_of_order : Sizes → List ℕ → ℕ → Bool
out_of_order z rules r = eqb z.version 2 && not_after rules r

-- Test 8: no rule in the layer, or a weight too large.
unfoldable pub bad_layer : Sizes → List ℕ → List ℕ → ℕ → Bool
bad_layer z rules layers l = not (any_below z.rules (in_layer rules l)) || any_below z.states (too_large z.states layers l)

-- ---- The check of the shape

-- Tests 5 to 8, with 14.
abbrev pub section_tests : Sizes → Sections → List Test
section_tests z x =
    record { number = 5; places = z.states + 1; bad = bad_state z x.states }
    ∷ record { number = 6; places = z.rules; bad = bad_rule z x.rules }
    ∷ record { number = 7; places = z.rules; bad = repeats x.rules }
    ∷ record { number = 14; places = z.rules; bad = out_of_order z x.rules }
    ∷ record { number = 8; places = z.layers; bad = bad_layer z x.rules x.layers }
    ∷ []

-- Tests 1 to 4 of the bytes b with header h.
abbrev pub header_tests : List ℕ → Header → List Test
header_tests b h =
    only 1 (ltb (length b) 24 || not (eqb (length b) h.at.total))
    ∷ version_test h.sizes.version
    ∷ count_test h.sizes
    ∷ record { number = 4; places = 6; bad = nth (offset_faults h) }
    ∷ []

-- Tests 1 to 8, with 14.
abbrev pub shape_tests : List ℕ → Header → List Test
shape_tests b h = header_tests b h ++ section_tests h.sizes (sections_of b h)

-- What tests 1 to 8 find: the header of bytes that pass, or the refusal.
unfoldable pub header_shape : List ℕ → Header → Result Header Refusal
header_shape b h = judge (λ n k. Err (refusal n k)) (Ok h) (shape_tests b h)

-- What tests 1 to 8 find of the bytes b.
unfoldable pub shape_of : List ℕ → Result Header Refusal
shape_of b = header_shape b (header_of b)

-- What follows for a docket that passes tests 1 to 8, by its header; a refusal of these is passed back.
abbrev pub by_shape : {A : Type 0} → (Refusal → A) → (Header → A) → Result Header Refusal → A
by_shape refuse f (Ok h) = f h
by_shape refuse f (Err r) = refuse r
