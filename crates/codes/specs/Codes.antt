-- What C is handed: 0, or a refusal; and the values behind the out-parameters, which a refusal leaves as they were.
use Rattle.std.specs.Prelude.{Bool, List, [], ◌∷◌, ℕ, ◌+◌, ◌*◌, Option, Some, None, Result, Ok, Err}
use Rattle.theory.specs.Bool.{bit}
use Rattle.theory.specs.Machine.{Reply, stepped, ran, refused}
use Rattle.refusals.specs.declared.Refusal.{Refusal}
use Rattle.refusals.specs.Refusal.{refusal}
use Rattle.checker.specs.declared.Summary.{Summary}
pub mod Laws

-- ---- Refusals

-- A refusal of the check, and of the check with a claim sheet: number times 65,536 plus place.
abbrev pub code : Refusal → ℕ
code r = r.number * 65536 + r.place

-- A refusal of another call. Its place may be any 32-bit number (the rule number of 23 and 24), so it is number times
-- 4,294,967,296 plus place.
abbrev pub call_code : Refusal → ℕ
call_code r = r.number * 4294967296 + r.place

-- ---- What each call returns: 0, or its refusal

-- The check, with or without a claim sheet. 0 says that the docket is accepted, of the other calls that they are not refused.
abbrev pub check_code : {A : Type 0} → Result A Refusal → ℕ
check_code (Ok f) = 0
check_code (Err r) = code r

-- Another call. A page's answer has no refusal of a group, which is among the results.
abbrev pub answer_code : {A : Type 0} → Result A Refusal → ℕ
answer_code (Ok x) = 0
answer_code (Err r) = call_code r

-- A step or a run, by theory's reply.
abbrev pub reply_code : Reply → ℕ
reply_code stepped = 0
reply_code (ran n rests) = 0
reply_code (refused n k) = call_code (refusal n k)

-- ---- What each call writes where `old` stood; a refusal leaves it there

-- S R L N W M of an accepted docket.
abbrev pub check_figures : List ℕ → Result Summary Refusal → List ℕ
check_figures old (Ok f) =
    f.states ∷ f.rules ∷ f.layers ∷ f.nodes ∷ f.spreads ∷ f.widest ∷ []
check_figures old (Err r) = old

-- The total length of the docket that was written.
abbrev pub write_total : ℕ → Result ℕ Refusal → ℕ
write_total old (Ok n) = n
write_total old (Err r) = old

-- The number of pairs.
abbrev pub pairs_value : ℕ → Result ℕ Refusal → ℕ
pairs_value old (Ok n) = n
pairs_value old (Err r) = old

-- 1 for yes, 0 for no.
abbrev pub yes_no_value : ℕ → Result Bool Refusal → ℕ
yes_no_value old (Ok t) = bit t
yes_no_value old (Err r) = old

-- 0, 1, or 2 for mixed.
abbrev pub verdict_value : ℕ → Result (Option Bool) Refusal → ℕ
verdict_value old (Ok (Some v)) = bit v
verdict_value old (Ok None) = 2
verdict_value old (Err r) = old

-- The steps of a run.
abbrev pub reply_steps : ℕ → Reply → ℕ
reply_steps old stepped = old
reply_steps old (ran n rests) = n
reply_steps old (refused n k) = old

-- 1 for a run that rests, 0 for a run that does not.
abbrev pub reply_rests : ℕ → Reply → ℕ
reply_rests old stepped = old
reply_rests old (ran n rests) = bit rests
reply_rests old (refused n k) = old
