-- The faults by name and by number, and what the tests of the code find.
use Rattle.std.specs.Prelude.{◌≡◌, refl, cond, eqb, ℕ, Bool, Option, Result, List, ◌∷◌, ◌++◌, codes}
use Rattle.std.specs.Fmt.{decimal}
use Rattle.theory.specs.Judge.Found.{at_place, where_bad}
use Rattle.refusals.specs.declared.Refusal.{Refusal}
use Rattle.refusals.specs.Refusal.{refusal}
use Rattle.refusals.specs.declared.Fault.{Fault}
use Rattle.refusals.specs.declared.Fault.TheVariants.{Length, Version, Counts, Offsets, State, Rule, Repeat, Layer, Lowering, Handover, Leaf, Fields, Ground, Order, Sheet, Unlike, Group, Start, NoRule, Disabled, Room, Records, Groups, Results, Totals}

-- The number of a fault.
abbrev pub number_of : Fault → ℕ
number_of Length = 1
number_of Version = 2
number_of Counts = 3
number_of Offsets = 4
number_of State = 5
number_of Rule = 6
number_of Repeat = 7
number_of Layer = 8
number_of Lowering = 9
number_of Handover = 10
number_of Leaf = 11
number_of Fields = 12
number_of Ground = 13
number_of Order = 14
number_of Sheet = 15
number_of Unlike = 20
number_of Group = 21
number_of Start = 22
number_of NoRule = 23
number_of Disabled = 24
number_of Room = 30
number_of Records = 31
number_of Groups = 32
number_of Results = 33
number_of Totals = 34

-- The fault of a number; another number gives the last.
unfoldable pub fault_of : ℕ → Fault
fault_of n =
    cond (eqb n 1) Length (
    cond (eqb n 2) Version (
    cond (eqb n 3) Counts (
    cond (eqb n 4) Offsets (
    cond (eqb n 5) State (
    cond (eqb n 6) Rule (
    cond (eqb n 7) Repeat (
    cond (eqb n 8) Layer (
    cond (eqb n 9) Lowering (
    cond (eqb n 10) Handover (
    cond (eqb n 11) Leaf (
    cond (eqb n 12) Fields (
    cond (eqb n 13) Ground (
    cond (eqb n 14) Order (
    cond (eqb n 15) Sheet (
    cond (eqb n 20) Unlike (
    cond (eqb n 21) Group (
    cond (eqb n 22) Start (
    cond (eqb n 23) NoRule (
    cond (eqb n 24) Disabled (
    cond (eqb n 30) Room (
    cond (eqb n 31) Records (
    cond (eqb n 32) Groups (
    cond (eqb n 33) Results (
    Totals))))))))))))))))))))))))

pub fault-number : (f : Fault) → fault_of (number_of f) ≡ f
unfolding fault_of
fault-number Length = refl
fault-number Version = refl
fault-number Counts = refl
fault-number Offsets = refl
fault-number State = refl
fault-number Rule = refl
fault-number Repeat = refl
fault-number Layer = refl
fault-number Lowering = refl
fault-number Handover = refl
fault-number Leaf = refl
fault-number Fields = refl
fault-number Ground = refl
fault-number Order = refl
fault-number Sheet = refl
fault-number Unlike = refl
fault-number Group = refl
fault-number Start = refl
fault-number NoRule = refl
fault-number Disabled = refl
fault-number Room = refl
fault-number Records = refl
fault-number Groups = refl
fault-number Results = refl
fault-number Totals = refl

-- What the test of this number finds by its lowest bad place, where it has one.
abbrev pub refused_at : ℕ → Option ℕ → Result (Unit {0}) Refusal
refused_at = at_place refusal

-- What the test of this number finds that points at nothing.
abbrev pub refused_if : ℕ → Bool → Result (Unit {0}) Refusal
refused_if = where_bad refusal

-- The words of a refusal as the programs print them; 32 is a space.
abbrev pub refusal_text : Refusal → List ℕ
refusal_text r = codes "refused " ++ (decimal r.number ++ (32 ∷ decimal r.place))
