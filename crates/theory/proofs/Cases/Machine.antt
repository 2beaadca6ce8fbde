-- Cases of calls and lists of calls.
use Rattle.std.specs.Prelude.{◌≡◌, refl, true, false, List, [], ◌∷◌, ℕ}
use Rattle.theory.specs.Protocol.{Protocol}
use Rattle.theory.proofs.Cases.Protocol.{column, broadcast, majority, two_outcomes}
use Rattle.theory.proofs.Cases.Ladder.{one_layer, two_layers, exchanged}
use Rattle.theory.specs.Ladder.{Layers}
use Rattle.theory.specs.Machine.Lists.{last_counts, reported}
use Rattle.theory.specs.Machine.{Call, step, run, Reply, stepped, ran, refused, chosen, run_numbers, reply, numbers_of}
use Rattle.theory.proofs.Unfold.{calling}

-- What a call says, computed.
pub said : Protocol → Layers → List ℕ → Call → Reply
unfolding calling
said P L c x = reply P L c x

-- Counts not 2 long are refused by 20, whatever their size, and a size not 2 to 1,000,000 by 21. At both ends of it
-- counts pass: a step then makes its meeting or is refused by 23 or 24 at its number; a run of limit 0 from 1 1 makes no
-- steps and is not at rest.
pub calls : (said broadcast one_layer [] (run 1) ≡ refused 20 0)
    × (said broadcast one_layer (1 ∷ []) (step 0) ≡ refused 20 0)
    × (said broadcast one_layer (1 ∷ 1 ∷ 0 ∷ []) (step 9) ≡ refused 20 0)
    × (said broadcast one_layer (1 ∷ 0 ∷ []) (step 9) ≡ refused 21 0)
    × (said broadcast one_layer (0 ∷ 1 ∷ []) (run 0) ≡ refused 21 0)
    × (said broadcast one_layer (1000000 ∷ 1 ∷ []) (step 0) ≡ refused 21 0)
    × (said broadcast one_layer (1000000 ∷ 1 ∷ []) (run 5) ≡ refused 21 0)
    × (said broadcast one_layer (1000000 ∷ 0 ∷ []) (run 5) ≡ ran 0 true)
    × (said broadcast one_layer (999999 ∷ 1 ∷ []) (run 1) ≡ ran 1 false)
    × (said broadcast one_layer (1 ∷ 1 ∷ []) (run 0) ≡ ran 0 false)
    × (said broadcast one_layer (1 ∷ 1 ∷ []) (run 1) ≡ ran 1 true)
    × (said broadcast one_layer (1 ∷ 1 ∷ []) (step 0) ≡ stepped)
    × (said broadcast one_layer (1 ∷ 1 ∷ []) (step 1) ≡ refused 23 1)
    × (said broadcast one_layer (1 ∷ 1 ∷ []) (step 9) ≡ refused 23 9)
    × (said broadcast one_layer (2 ∷ 0 ∷ []) (step 0) ≡ refused 24 0)
unfolding said
calls = (refl, refl, refl, refl, refl, refl, refl, refl, refl, refl, refl, refl, refl, refl, refl)

-- On counts that do not pass a list of calls makes no list of rule numbers, and changes nothing.
pub calls_none : (numbers_of broadcast one_layer (1 ∷ 1 ∷ 0 ∷ []) (step 0 ∷ run 5 ∷ []) ≡ [])
    × (last_counts broadcast one_layer (1 ∷ 1 ∷ 0 ∷ []) (step 0 ∷ run 5 ∷ []) ≡ 1 ∷ 1 ∷ 0 ∷ [])
    × (numbers_of broadcast one_layer (1000000 ∷ 1 ∷ []) (step 0 ∷ run 5 ∷ []) ≡ [])
    × (last_counts broadcast one_layer (1000000 ∷ 1 ∷ []) (step 0 ∷ run 5 ∷ []) ≡ 1000000 ∷ 1 ∷ [])
    × (reported broadcast one_layer (1000000 ∷ 1 ∷ []) (step 0 ∷ run 5 ∷ []) ≡ 0)
unfolding calling
calls_none = (refl, refl, refl, refl, refl)

-- P8 and P9: the runs from 2 1 0 0 and from 1 1 0 0. A run uses rule 2 of layer 0 before rule 0 of layer 1, and of
-- the rules 0 and 1 of layer 0, both enabled at 1 1 0 1, the lower. Then steps and a run in one list, where 9 is no rule
-- and rule 3 is not enabled.
pub machine : (run_numbers majority two_layers 4294967295 (2 ∷ 1 ∷ 0 ∷ 0 ∷ []) ≡ 0 ∷ 1 ∷ [])
    × (last_counts majority two_layers (2 ∷ 1 ∷ 0 ∷ 0 ∷ []) (run 4294967295 ∷ []) ≡ 1 ∷ 0 ∷ 2 ∷ 0 ∷ [])
    × (reply majority two_layers (2 ∷ 1 ∷ 0 ∷ 0 ∷ []) (run 4294967295) ≡ ran 2 true)
    × (reply majority two_layers (2 ∷ 1 ∷ 0 ∷ 0 ∷ []) (run 1) ≡ ran 1 false)
    × (reply majority two_layers (2 ∷ 1 ∷ 0 ∷ 0 ∷ []) (step 3) ≡ refused 24 3)
    × (run_numbers majority two_layers 4294967295 (1 ∷ 1 ∷ 0 ∷ 0 ∷ []) ≡ 0 ∷ 3 ∷ [])
    × (last_counts majority two_layers (1 ∷ 1 ∷ 0 ∷ 0 ∷ []) (run 4294967295 ∷ []) ≡ 0 ∷ 0 ∷ 0 ∷ 2 ∷ [])
    × (chosen majority exchanged (1 ∷ 1 ∷ 1 ∷ 0 ∷ []) ≡ 2)
    × (chosen majority two_layers (1 ∷ 1 ∷ 0 ∷ 1 ∷ []) ≡ 0)
    × (numbers_of majority two_layers (2 ∷ 1 ∷ 0 ∷ 0 ∷ []) (step 9 ∷ step 3 ∷ step 0 ∷ run 5 ∷ []) ≡ 9 ∷ 3 ∷ 0 ∷ 1 ∷ [])
    × (reported majority two_layers (2 ∷ 1 ∷ 0 ∷ 0 ∷ []) (step 9 ∷ step 3 ∷ step 0 ∷ run 5 ∷ []) ≡ 2)
    × (reported majority two_layers (2 ∷ 1 ∷ 0 ∷ 0 ∷ []) (run 5 ∷ []) ≡ 2)
unfolding calling
machine = (refl, refl, refl, refl, refl, refl, refl, refl, refl, refl, refl, refl)

-- Rules 0 and 1 of two_outcomes have one before pair. A step tries the number given; a run uses the lower number, or the one
-- of the lower layer.
pub outcome_chosen : (last_counts two_outcomes one_layer (1 ∷ 1 ∷ 0 ∷ []) (step 0 ∷ []) ≡ 0 ∷ 2 ∷ 0 ∷ [])
    × (last_counts two_outcomes one_layer (1 ∷ 1 ∷ 0 ∷ []) (step 1 ∷ []) ≡ 0 ∷ 1 ∷ 1 ∷ [])
    × (run_numbers two_outcomes one_layer 4294967295 (1 ∷ 1 ∷ 0 ∷ []) ≡ 0 ∷ [])
    × (run_numbers two_outcomes (record { count = 2; of = column (1 ∷ 0 ∷ 0 ∷ []) }) 4294967295 (1 ∷ 1 ∷ 0 ∷ []) ≡ 1 ∷ [])
unfolding calling
outcome_chosen = (refl, refl, refl, refl)
