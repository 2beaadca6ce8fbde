-- Demand 3 on the bytes of an accepted docket, from theory's theorems of its protocol. Assumes nothing.
use Rattle.refusals.specs.Refusal.{refusal}
use Rattle.std.specs.Prelude.{◌≡◌, Bool, true, cond, ℕ, Ok, Err, Some}
use Rattle.std.proofs.Math.Path.{refl, ap, subst₃, fun_ext}
use Rattle.std.proofs.Common.{sym, ◌∙◌}
use mathlib.Core.List.{List, [], ◌∷◌}
use Rattle.theory.specs.Protocol.{Protocol, Start, terminal}
use Rattle.theory.specs.Ladder.{Layers}
use Rattle.theory.specs.Machine.Lists.{last_counts, reported}
use Rattle.theory.specs.Machine.{Call, Reply, refused, meetings_of, is_sized, admitted, reply, counts_after, numbers_of}
use Rattle.theory.proofs.Machine.Laws.{admitted-last, last_counts-after}
use Rattle.theory.specs.Claims.{Reaches, Consensus, OneOutput, AllRefused, CallsMake, CallsRest}
use Rattle.theory.proofs.Claims.Proved.{theorems}
use Rattle.format.specs.Format.{protocol_in, layers_in, weight_in}
use Rattle.format.specs.declared.Header.{Header}
use Rattle.shape.specs.Shape.{by_shape, shape_of}
use Rattle.shape.specs.Sound.{SoundShape}
use Rattle.machine.specs.Calls.{verdict_of, reply_of, counts_of}
use Rattle.machine.specs.Code.Laws.{reply_sound, counts_sound}
use Rattle.claims.specs.OfDocket.{pass_back, Rules, last_on, reported_on, CallsOn, Demand3}
use Rattle.claims.proofs.OfDocket.Exact.{certified, laddered}
use Rattle.claims.proofs.OfDocket.Says.{demand_1}

-- The calls on the bytes of a docket of sound shape are those on its protocol.
module _ (b : List ℕ) (h : Header) (sound : SoundShape b h) where
  abbrev P : Protocol
  P = protocol_in b h

  abbrev L : Layers
  L = layers_in b h

  pub same_last : (c : List ℕ) (xs : List Call) → last_on b c xs ≡ last_counts P L c xs
  unfolding last_on last_counts
  same_last c [] = refl
  same_last c (x ∷ xs) = ap (λ d. last_on b d xs) (counts_sound b h sound c x) ∙ same_last (counts_after P L c x) xs

  pub same_reported : (c : List ℕ) (xs : List Call) → reported_on b c xs ≡ reported P L c xs
  unfolding reported_on reported
  same_reported c [] = refl
  same_reported c (x ∷ xs) = rw (reply_sound b h sound c x, counts_sound b h sound c x, same_reported (counts_after P L c x) xs)

  -- A claim about the calls on the protocol is one about those on the bytes.
  on_bytes : (c : List ℕ) (Q : (List ℕ → Call → Reply) → (List Call → List ℕ) → (List Call → ℕ) → Type 0)
      → Q (reply P L) (last_counts P L c) (reported P L c) → Q (reply_of b) (last_on b c) (reported_on b c)
  on_bytes c Q = subst₃ Q (sym (fun_ext (λ d. fun_ext (reply_sound b h sound d)))) (sym (fun_ext (same_last c))) (sym (fun_ext (same_reported c)))

pub calls_on : (b : List ℕ) (h : Header) → SoundShape b h → (c : List ℕ) → CallsOn b h c
calls_on b h sound c =
    let P = protocol_in b h in
    let L = layers_in b h in
    record {
      make = λ on. on_bytes b h sound c (CallsMake P L c) ((theorems P).calls_make sound.sections.formed sound.sections.partition c on);
      refuse = λ off. on_bytes b h sound c (λ say last total. AllRefused c say last total (cond (is_sized P c) 21 20) 0) ((theorems P).calls_refused L c off);
    }

-- The counts that calls leave pass 20 and 21 where the first ones do.
pub still-admitted : (b : List ℕ) (h : Header) → SoundShape b h → (c : List ℕ) (xs : List Call) → admitted (protocol_in b h) c ≡ true
    → admitted (protocol_in b h) (last_on b c xs) ≡ true
still-admitted b h sound c xs on =
    let P = protocol_in b h in
    ap (admitted P) (same_last b h sound c xs) ∙ admitted-last P (layers_in b h) sound.sections.formed c xs on

-- From a start, the verdict call says one verdict after all lists of calls that end at a standstill.
one_verdict : (b : List ℕ) (h : Header) (sound : SoundShape b h) → Consensus (protocol_in b h) → (c : List ℕ) → Start (protocol_in b h) c
    → admitted (protocol_in b h) c ≡ true
    → (v : Bool) × ((xs : List Call) → terminal (protocol_in b h) (last_on b c xs) ≡ true → verdict_of b (last_on b c xs) ≡ Ok (Some v))
one_verdict b h sound one c start on =
    let P = protocol_in b h in
    let L = layers_in b h in
    let v = one c start in (
      v.0,
      λ xs t.
          let d = last_on b c xs in
          let to : d ≡ last_counts P L c xs = same_last b h sound c xs in
          let reached : Reaches P c d = (numbers_of P L c xs, sym (to ∙ last_counts-after P L c xs)) in
          (((demand_1 b d).verdict.own h sound (still-admitted b h sound c xs on)).0 v.0).1 (v.1 d reached t),
    )

pub demand_3 : (b : List ℕ) (h : Header) → Rules b h → (c : List ℕ) → Demand3 b h c
demand_3 b h keeps c =
    let P = protocol_in b h in
    let L = layers_in b h in
    let lad = (theorems P).of_ladder (laddered b h keeps) in
    let one = ((theorems P).ws² (certified b h keeps)).consensus in
    record {
      rests = lad.rests c;
      calls_rest = λ long. on_bytes b h keeps.shape c (CallsRest P L (weight_in b h) c) (lad.calls_rest c long);
      rank_is = lad.rank_is c;
      some_list = lad.some_list c;
      one_output = (theorems P).one_output one c;
      calls_one_output = on_bytes b h keeps.shape c (λ _ last _. OneOutput P c last) ((theorems P).calls_one_output one L c);
      calls_verdict = λ start on. one_verdict b h keeps.shape one c start on;
      of_calls = calls_on b h keeps.shape c;
    }

-- Calls on a docket that fails tests 1 to 8.
module _ (b : List ℕ) (n k : ℕ) (fails : shape_of b ≡ Err (refusal n k)) where
  fails_reply : (c : List ℕ) (x : Call) → reply_of b c x ≡ refused n k
  unfolding reply_of
  fails_reply c x = ap (by_shape (pass_back b c) (λ h. reply (protocol_in b h) (layers_in b h) c x)) fails

  fails_counts : (c : List ℕ) (x : Call) → counts_of b c x ≡ c
  unfolding counts_of
  fails_counts c x = ap (by_shape (λ _. c) (λ h. counts_after (protocol_in b h) (layers_in b h) c x)) fails

  fails_last : (c : List ℕ) (xs : List Call) → last_on b c xs ≡ c
  unfolding last_on
  fails_last c [] = refl
  fails_last c (x ∷ xs) = ap (λ d. last_on b d xs) (fails_counts c x) ∙ fails_last c xs

  fails_reported : (c : List ℕ) (xs : List Call) → reported_on b c xs ≡ 0
  unfolding reported_on meetings_of
  fails_reported c [] = refl
  fails_reported c (x ∷ xs) = rw (fails_reply c x, fails_counts c x, fails_reported c xs)

  pub calls_fail : (c : List ℕ) → AllRefused c (reply_of b) (last_on b c) (reported_on b c) n k
  calls_fail c = record { says = λ xs x. fails_reply (last_on b c xs) x; unchanged = fails_last c; no_meetings = fails_reported c }
