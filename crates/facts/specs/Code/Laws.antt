-- Sets in the facts' words, marks, and the fresh facts. Assumes nothing.
use Rattle.std.specs.Prelude.{◌≡◌, refl, Bool, true, not, cond, ◌&&◌, ◌||◌, List, [], ◌∷◌, map, ltb, leb, length, get_or, set, replicate}
use Rattle.std.proofs.Math.Path.{sym, ap, fun_ext}
use Rattle.std.proofs.Common.{◌∙◌, ap₂, arith}
use Rattle.std.proofs.Math.Bool.{false, and-true, and-false, or_comm, or-false}
use Prim.Native.Nat.{ℕ, zero, suc, ◌+◌, ◌-◌, ◌/◌, ◌%◌, ◌≤◌, ◌<◌}
use Rattle.std.proofs.Math.Dec.{eqb}
use Rattle.std.proofs.Math.ListN.{get_or-eq_default}
use Rattle.std.proofs.lemmas.List.{get_or-set_other}
use Rattle.std.proofs.lemmas.Grind.{get_or-set_at}
use Rattle.std.proofs.Math.Logic.{by_cases}
use Rattle.std.proofs.Math.Decide.{dec_lt}
use borrow.Author.Tests.{lt-ltb, le-ltb, le-leb, lt-leb, leb-true, leb-false, ltb-true, eq-eqb, ne_eqb, eqb-true, eqb-false}
use Rattle.theory.specs.Bool.{member}
use Rattle.theory.proofs.Bool.Laws.{by_test}
use Rattle.theory.specs.Protocol.{Protocol}
use Rattle.theory.specs.Facts as theory
use Rattle.theory.specs.Facts.{extend, with_absent, with_present, with_at_most_one, with_unused, fresh}
use Rattle.bits.specs.Code.{single_of, full_of, among_of, union_of, without_of, in_words}
use Rattle.bits.specs.Code.Laws.{member_none, single-below}
use Rattle.facts.specs.Code.{word_of, has_word, sets_of, is_end, rules_of_run, facts_of, fresh_of, joined_if, only_if}

-- ---- What the words say

-- Behind the last word there is none.
pub word_past : (b : ℕ) (ws : List ℕ) (k : ℕ) → length ws ≤ k - b → word_of b ws k ≡ 0
unfolding word_of
word_past b ws k h = by_test (leb b k) (λ e. rw e (get_or-eq_default ws 0 h)) (λ e. rw e)

-- The word at place i, where that is the place of party k; and where no place is.
pub word_at : (b : ℕ) (ws : List ℕ) (k i : ℕ) → b + i ≡ k → get_or ws i 0 ≡ word_of b ws k
unfolding word_of
word_at b ws k i e = rw (le-leb b k (omega arith)) (ap (λ (y : ℕ). get_or ws y 0) (omega arith))

pub word_none : (b n : ℕ) (ws : List ℕ) (k : ℕ) → length ws ≡ n → ((i : ℕ) → i < n → b + i ≡ k → ⊥) → 0 ≡ word_of b ws k
unfolding word_of
word_none b n ws k l h =
    by_test (leb b k)
    (λ e. rw e (sym (get_or-eq_default ws 0 (omega (arith, l, by_cases (dec_lt (k - b) n) (λ m. absurd (h (k - b) m (omega (arith, leb-true b k e)))) (λ g. g))))))
    (λ e. rw e)

pub set-word : (b : ℕ) (ws : List ℕ) (k u : ℕ) → u ≡ word_of b ws k → member u ≡ sets_of b ws k
unfolding sets_of
set-word b ws k u e = ap member e

-- The four words of a run.
pub run_words : (ws : List (List ℕ)) (k x y z w : ℕ) → length ws ≡ 4 → x ≡ word_of 1 (get_or ws 0 []) k → y ≡ word_of 1 (get_or ws 1 []) k
    → z ≡ word_of 1 (get_or ws 2 []) k → w ≡ word_of 1 (get_or ws 3 []) k → in_words (x ∷ y ∷ z ∷ w ∷ []) ≡ rules_of_run ws k
unfolding rules_of_run
run_words (a ∷ b ∷ c ∷ d ∷ []) k x y z w l hx hy hz hw = rw (hx, hy, hz, hw)
run_words [] k x y z w l hx hy hz hw = absurd (omega (arith, l))
run_words (a ∷ []) k x y z w l hx hy hz hw = absurd (omega (arith, l))
run_words (a ∷ b ∷ []) k x y z w l hx hy hz hw = absurd (omega (arith, l))
run_words (a ∷ b ∷ c ∷ []) k x y z w l hx hy hz hw = absurd (omega (arith, l))
run_words (a ∷ b ∷ c ∷ d ∷ e ∷ ws) k x y z w l hx hy hz hw = absurd (omega (arith, l))

-- The same, where each is read at a party that is k.
pub run_words_at : (ws : List (List ℕ)) (k f g h i x y z w : ℕ) → length ws ≡ 4 → x ≡ word_of 1 (get_or ws 0 []) f → f ≡ k
    → y ≡ word_of 1 (get_or ws 1 []) g → g ≡ k → z ≡ word_of 1 (get_or ws 2 []) h → h ≡ k → w ≡ word_of 1 (get_or ws 3 []) i → i ≡ k
    → in_words (x ∷ y ∷ z ∷ w ∷ []) ≡ rules_of_run ws k
run_words_at ws k f g h i x y z w l hx ef hy eg hz eh hw ei =
    run_words ws k x y z w l (hx ∙ at 0 f ef) (hy ∙ at 1 g eg) (hz ∙ at 2 h eh) (hw ∙ at 3 i ei)
  where
    at : (q j : ℕ) → j ≡ k → word_of 1 (get_or ws q []) j ≡ word_of 1 (get_or ws q []) k
    at q j e = ap (λ (n : ℕ). word_of 1 (get_or ws q []) n) e

-- The parties that have a word, of three and of the two ends.
party_word : (k : ℕ) → has_word 0 3 k ≡ ltb k 3
unfolding has_word
party_word k = rw (le-leb 0 k (omega arith)) (ap (λ j. ltb j 3) (let e : k - 0 ≡ k = omega arith in e))

end_word : (k : ℕ) → has_word 1 2 k ≡ is_end k
unfolding has_word is_end
end_word k =
    by_cases (dec_lt 0 k)
    (λ h.
    ap₂ ◌&&◌ (le-leb 1 k h ∙ sym (lt-ltb 0 k h))
    (by_cases (dec_lt k 3)
    (λ l. lt-ltb (k - 1) 2 (omega arith) ∙ sym (lt-ltb k 3 l))
    (λ l. le-ltb (k - 1) 2 (omega arith) ∙ sym (le-ltb k 3 (omega arith)))))
    (λ h. ap (λ b. b && ltb (k - 1) 2) (lt-leb 1 k (omega arith)) ∙ ap (λ b. b && ltb k 3) (sym (le-ltb 0 k (omega arith))))

-- ---- Sets marked under a test

only_if-passes : (t : Bool) (A : ℕ → Bool) → t ≡ true → only_if t A ≡ A
unfolding only_if
only_if-passes t A e = fun_ext (λ s. rw e)

pub within_party : (k : ℕ) (A : ℕ → Bool) → k < 3 → only_if (ltb k 3) A ≡ A
within_party k A h = only_if-passes (ltb k 3) A (lt-ltb k 3 h)

pub within_ends : (k : ℕ) (A : ℕ → Bool) → 1 ≤ k → k < 3 → only_if (is_end k) A ≡ A
unfolding is_end
within_ends k A l h = only_if-passes (is_end k) A (rw (lt-ltb 0 k (omega arith), lt-ltb k 3 h))

pub joined_passed : (a b w : ℕ) (t : Bool) → t ≡ true → member w ≡ union_of a b → member w ≡ joined_if t (member a) (member b)
unfolding joined_if
joined_passed a b w t e d = d ∙ rw e

pub joined_failed : (a b : ℕ) (t : Bool) → t ≡ false → member a ≡ joined_if t (member a) (member b)
unfolding joined_if
joined_failed a b t e = fun_ext (λ i. sym (rw e (or-false (member a i))))

-- The words vs are the words ws, where that of party k, if it is at a place below i, is joined with the set A.
abbrev pub MarkedBelow : ℕ → ℕ → ℕ → List ℕ → List ℕ → (ℕ → Bool) → Type 0
MarkedBelow b k i ws vs A = (j : ℕ) → member (get_or vs j 0) ≡ joined_if (ltb j i && eqb (b + j) k) (member (get_or ws j 0)) A

joined_off : (M A : ℕ → Bool) → joined_if false M A ≡ M
unfolding joined_if
joined_off M A = fun_ext (λ s. or-false (M s))

module _ (b k : ℕ) (ws : List ℕ) (A : ℕ → Bool) where
  pub marked_none : MarkedBelow b k 0 ws ws A
  marked_none j =
      sym
      (ap (λ (t : Bool). joined_if (t && eqb (b + j) k) (member (get_or ws j 0)) A) (le-ltb j 0 (omega arith))
      ∙ joined_off (member (get_or ws j 0)) A)

  module _ (i x : ℕ) (vs : List ℕ) (l : i < length vs) (m : MarkedBelow b k i ws vs A)
      (e : member x ≡ joined_if (eqb (b + i) k) (member (get_or vs i 0)) A) where
    before : member (get_or vs i 0) ≡ member (get_or ws i 0)
    before =
        m i
        ∙ ap (λ (t : Bool). joined_if (t && eqb (b + i) k) (member (get_or ws i 0)) A) (le-ltb i i (omega arith))
        ∙ joined_off (member (get_or ws i 0)) A

    here : (j : ℕ) → j ≡ i → member (get_or (set vs i x) j 0) ≡ joined_if (ltb j (i + 1) && eqb (b + j) k) (member (get_or ws j 0)) A
    here j f =
        ap member (get_or-set_at vs i j x 0 f l)
        ∙ e
        ∙ ap (λ (M : ℕ → Bool). joined_if (eqb (b + i) k) M A) before
        ∙ ap (λ (y : ℕ). joined_if (eqb (b + y) k) (member (get_or ws y 0)) A) (sym f)
        ∙ sym (ap (λ (t : Bool). joined_if (t && eqb (b + j) k) (member (get_or ws j 0)) A) (lt-ltb j (i + 1) (omega arith)))

    other : (j : ℕ) → (j ≡ i → ⊥) → member (get_or (set vs i x) j 0) ≡ joined_if (ltb j (i + 1) && eqb (b + j) k) (member (get_or ws j 0)) A
    other j f =
        ap member (get_or-set_other vs i j x 0 f)
        ∙ m j
        ∙ ap (λ (t : Bool). joined_if (t && eqb (b + j) k) (member (get_or ws j 0)) A)
        (by_cases (dec_lt j i)
        (λ h. lt-ltb j i h ∙ sym (lt-ltb j (i + 1) (omega arith)))
        (λ h. le-ltb j i (omega arith) ∙ sym (le-ltb j (i + 1) (omega (arith, f)))))

    pub marked_more : MarkedBelow b k (i + 1) ws (set vs i x) A
    marked_more j = by_test (eqb j i) (λ q. here j (eqb-true j i q)) (λ q. other j (eqb-false j i q))

  -- The turns are all made.
  pub marked_done : (n i : ℕ) (vs : List ℕ) → i ≤ n → n ≤ i → MarkedBelow b k i ws vs A
      → sets_of b vs ≡ extend (sets_of b ws) k (only_if (has_word b n k) A)
  unfolding sets_of word_of has_word extend only_if joined_if
  marked_done n i vs m o h = fun_ext (λ j. fun_ext (at j))
    where
      turn : (j s : ℕ) → member (get_or vs (j - b) 0) s ≡ member (get_or ws (j - b) 0) s || ((ltb (j - b) i && eqb (b + (j - b)) k) && A s)
      turn j s = ap (λ (f : ℕ → Bool). f s) (h (j - b))

      inside : (j s : ℕ) → b ≤ j → j ≡ k
          → member (get_or vs (j - b) 0) s ≡ (true && ((true && ltb (k - b) n) && A s)) || member (get_or ws (j - b) 0) s
      inside j s l f =
          turn j s
          ∙ ap (λ (t : Bool). member (get_or ws (j - b) 0) s || ((ltb (j - b) i && t) && A s)) (eq-eqb (b + (j - b)) k (omega arith))
          ∙ ap (λ (t : Bool). member (get_or ws (j - b) 0) s || (t && A s)) (and-true (ltb (j - b) i))
          ∙ ap₂ (λ (y z : ℕ). member (get_or ws (j - b) 0) s || (ltb (y - b) z && A s)) f (let d : i ≡ n = omega arith in d)
          ∙ or_comm (member (get_or ws (j - b) 0) s) (ltb (k - b) n && A s)

      outside : (j s : ℕ) → b ≤ j → (j ≡ k → ⊥) → member (get_or vs (j - b) 0) s ≡ member (get_or ws (j - b) 0) s
      outside j s l f =
          turn j s
          ∙ ap (λ (t : Bool). member (get_or ws (j - b) 0) s || ((ltb (j - b) i && t) && A s)) (ne_eqb (b + (j - b)) k (λ d. f (omega arith)))
          ∙ ap (λ (t : Bool). member (get_or ws (j - b) 0) s || (t && A s)) (and-false (ltb (j - b) i))
          ∙ or-false (member (get_or ws (j - b) 0) s)

      at : (j s : ℕ) → member (word_of b vs j) s ≡ (eqb j k && ((leb b k && ltb (k - b) n) && A s)) || member (word_of b ws j) s
      at j s =
          by_test (leb b j)
          (λ e.
          let l = leb-true b j e in
          by_test (eqb j k)
          (λ q. let f = eqb-true j k q in rw (e, q, le-leb b k (omega arith)) (inside j s l f))
          (λ q. rw (e, q) (outside j s l (eqb-false j k q))))
          (λ e.
          by_test (eqb j k)
          (λ q. let f = eqb-true j k q in rw (e, q, lt-leb b k (omega (arith, leb-false b j e))))
          (λ q. rw (e, q)))

pub party_marked : (F G : ℕ → ℕ → Bool) (k : ℕ) (A : ℕ → Bool) → G ≡ extend F k (only_if (has_word 0 3 k) A) → G ≡ extend F k (only_if (ltb k 3) A)
party_marked F G k A h = h ∙ ap (λ (t : Bool). extend F k (only_if t A)) (party_word k)

pub end_marked : (F G : ℕ → ℕ → Bool) (k : ℕ) (A : ℕ → Bool) → G ≡ extend F k (only_if (has_word 1 2 k) A) → G ≡ extend F k (only_if (is_end k) A)
end_marked F G k A h = h ∙ ap (λ (t : Bool). extend F k (only_if t A)) (end_word k)

-- The same, where party j is party k.
pub end_marked_at : (F G : ℕ → ℕ → Bool) (j k : ℕ) (A : ℕ → Bool) → G ≡ extend F j (only_if (has_word 1 2 j) A) → j ≡ k
    → G ≡ extend F k (only_if (is_end k) A)
end_marked_at F G j k A h e = end_marked F G j A h ∙ ap (λ (n : ℕ). extend F n (only_if (is_end n) A)) e

-- The words of each run are joined with those of u, four for each.
pub run_marked : (ws : List (List ℕ)) (u : List ℕ) (k : ℕ) (a b c d : List ℕ) → length ws ≡ 4 → length u ≡ 4
    → sets_of 1 a ≡ extend (sets_of 1 (get_or ws 0 [])) k (only_if (has_word 1 2 k) (member (get_or u 0 0)))
    → sets_of 1 b ≡ extend (sets_of 1 (get_or ws 1 [])) k (only_if (has_word 1 2 k) (member (get_or u 1 0)))
    → sets_of 1 c ≡ extend (sets_of 1 (get_or ws 2 [])) k (only_if (has_word 1 2 k) (member (get_or u 2 0)))
    → sets_of 1 d ≡ extend (sets_of 1 (get_or ws 3 [])) k (only_if (has_word 1 2 k) (member (get_or u 3 0)))
    → rules_of_run (a ∷ b ∷ c ∷ d ∷ []) ≡ extend (rules_of_run ws) k (only_if (is_end k) (in_words u))
unfolding rules_of_run in_words extend only_if sets_of
run_marked [] u k a b c d l m ha hb hc hd = absurd (omega (arith, l))
run_marked (w ∷ []) u k a b c d l m ha hb hc hd = absurd (omega (arith, l))
run_marked (w ∷ x ∷ []) u k a b c d l m ha hb hc hd = absurd (omega (arith, l))
run_marked (w ∷ x ∷ y ∷ []) u k a b c d l m ha hb hc hd = absurd (omega (arith, l))
run_marked (w ∷ x ∷ y ∷ z ∷ v ∷ ws) u k a b c d l m ha hb hc hd = absurd (omega (arith, l))
run_marked (w ∷ x ∷ y ∷ z ∷ []) u k a b c d l m ha hb hc hd = fun_ext (λ j. fun_ext (λ r. at j (r / 64) (r % 64)))
  where
    joined : (v v' : List ℕ) (q j i : ℕ) → sets_of 1 v' ≡ extend (sets_of 1 v) k (only_if (has_word 1 2 k) (member (get_or u q 0)))
        → member (word_of 1 v' j) i ≡ (eqb j k && (is_end k && member (get_or u q 0) i)) || member (word_of 1 v j) i
    joined v v' q j i h = ap (λ (m : ℕ → ℕ → Bool). m j i) (end_marked (sets_of 1 v) (sets_of 1 v') k (member (get_or u q 0)) h)

    at : (j q i : ℕ)
        → member (get_or (word_of 1 a j ∷ word_of 1 b j ∷ word_of 1 c j ∷ word_of 1 d j ∷ []) q 0) i
        ≡ (eqb j k && (is_end k && member (get_or u q 0) i))
        || member (get_or (word_of 1 w j ∷ word_of 1 x j ∷ word_of 1 y j ∷ word_of 1 z j ∷ []) q 0) i
    at j zero i = joined w a 0 j i ha
    at j (suc zero) i = joined x b 1 j i hb
    at j (suc (suc zero)) i = joined y c 2 j i hc
    at j (suc (suc (suc zero))) i = joined z d 3 j i hd
    at j (suc (suc (suc (suc q)))) i =
        let m : length u ≤ suc (suc (suc (suc q))) = omega arith in
        rw (get_or-eq_default u 0 m, member_none i, and-false (is_end k), and-false (eqb j k))

-- Words taken from marked words one by one. The code takes them whole; by these laws it may do either, so that must-fail edits
-- which take one word elsewhere are refused for what that word says.
module _ (b : ℕ) (X : ℕ → ℕ → Bool) where
  taken : (ws vs : List ℕ) (k s q : ℕ) → k - b ≡ q → get_or vs q 0 ≡ get_or ws q 0 → sets_of b ws ≡ X → sets_of b vs k s ≡ X k s
  unfolding sets_of word_of
  taken ws vs k s q e f h =
      ap (λ (y : ℕ). member (cond (leb b k) y 0) s) (ap (λ (j : ℕ). get_or vs j 0) e ∙ f ∙ sym (ap (λ (j : ℕ). get_or ws j 0) e))
      ∙ ap (λ (F : ℕ → ℕ → Bool). F k s) h

  pub pair_marked : (ws vs : List ℕ) → length vs ≡ 2 → sets_of b ws ≡ X → sets_of b vs ≡ X
      → sets_of b (get_or ws 0 0 ∷ get_or vs 1 0 ∷ []) ≡ X
  pair_marked ws vs l g h = fun_ext (λ k. fun_ext (λ s. at k s (k - b) refl))
    where
      at : (k s q : ℕ) → k - b ≡ q → sets_of b (get_or ws 0 0 ∷ get_or vs 1 0 ∷ []) k s ≡ X k s
      at k s zero e = taken ws (get_or ws 0 0 ∷ get_or vs 1 0 ∷ []) k s zero e refl g
      at k s (suc zero) e = taken vs (get_or ws 0 0 ∷ get_or vs 1 0 ∷ []) k s (suc zero) e refl h
      at k s (suc (suc q)) e =
          taken vs (get_or ws 0 0 ∷ get_or vs 1 0 ∷ []) k s (suc (suc q)) e
          (let m : length vs ≤ suc (suc q) = omega arith in sym (get_or-eq_default vs 0 m)) h

  pub three_marked : (ws vs us : List ℕ) → length us ≡ 3 → sets_of b ws ≡ X → sets_of b vs ≡ X → sets_of b us ≡ X
      → sets_of b (get_or ws 0 0 ∷ get_or vs 1 0 ∷ get_or us 2 0 ∷ []) ≡ X
  three_marked ws vs us l f g h = fun_ext (λ k. fun_ext (λ s. at k s (k - b) refl))
    where
      at : (k s q : ℕ) → k - b ≡ q → sets_of b (get_or ws 0 0 ∷ get_or vs 1 0 ∷ get_or us 2 0 ∷ []) k s ≡ X k s
      at k s zero e = taken ws (get_or ws 0 0 ∷ get_or vs 1 0 ∷ get_or us 2 0 ∷ []) k s zero e refl f
      at k s (suc zero) e = taken vs (get_or ws 0 0 ∷ get_or vs 1 0 ∷ get_or us 2 0 ∷ []) k s (suc zero) e refl g
      at k s (suc (suc zero)) e = taken us (get_or ws 0 0 ∷ get_or vs 1 0 ∷ get_or us 2 0 ∷ []) k s (suc (suc zero)) e refl h
      at k s (suc (suc (suc q))) e =
          taken us (get_or ws 0 0 ∷ get_or vs 1 0 ∷ get_or us 2 0 ∷ []) k s (suc (suc (suc q))) e
          (let m : length us ≤ suc (suc (suc q)) = omega arith in sym (get_or-eq_default us 0 m)) h

pub ruleset joins = (joined_passed, joined_failed, party_marked, end_marked, run_marked, pair_marked, three_marked)

-- One sort of facts is extended, the others are as they were.
module _ (F G : theory.Facts) (k : ℕ) (A : ℕ → Bool) where
  pub absent_with : G.absent ≡ extend F.absent k A → G.present ≡ F.present → G.at_most_one ≡ F.at_most_one → G.unused ≡ F.unused
      → G ≡ with_absent F k A
  unfolding with_absent
  absent_with a p o u = rw (← a, ← p, ← o, ← u)

  pub present_with : G.absent ≡ F.absent → G.present ≡ extend F.present k A → G.at_most_one ≡ F.at_most_one → G.unused ≡ F.unused
      → G ≡ with_present F k A
  unfolding with_present
  present_with a p o u = rw (← a, ← p, ← o, ← u)

  pub at_most_one_with : G.absent ≡ F.absent → G.present ≡ F.present → G.at_most_one ≡ extend F.at_most_one k A → G.unused ≡ F.unused
      → G ≡ with_at_most_one F k A
  unfolding with_at_most_one
  at_most_one_with a p o u = rw (← a, ← p, ← o, ← u)

  pub unused_with : G.absent ≡ F.absent → G.present ≡ F.present → G.at_most_one ≡ F.at_most_one → G.unused ≡ extend F.unused k A
      → G ≡ with_unused F k A
  unfolding with_unused
  unused_with a p o u = rw (← a, ← p, ← o, ← u)

pub ruleset marks = (absent_with, present_with, at_most_one_with, unused_with)

-- ---- For callers: a set of one state

pub within-end-states : (k s u : ℕ) → 1 ≤ k → k < 3 → s < 64 → member u ≡ single_of s → only_if (is_end k) (member u) ≡ eqb s
within-end-states k s u m h l e = within_ends k (member u) m h ∙ e ∙ single-below s l

pub within-states : (k s u : ℕ) → k < 3 → s < 64 → member u ≡ single_of s → only_if (ltb k 3) (member u) ≡ eqb s
within-states k s u h l e = within_party k (member u) h ∙ e ∙ single-below s l

-- ---- The fresh facts

start_alone : (w : ℕ) → sets_of 0 (w ∷ 0 ∷ 0 ∷ []) ≡ (λ k s. eqb k 0 && member w s)
unfolding sets_of word_of
start_alone w = fun_ext (λ k. fun_ext (at k))
  where
    at : (k s : ℕ) → sets_of 0 (w ∷ 0 ∷ 0 ∷ []) k s ≡ eqb k 0 && member w s
    at zero s = refl
    at (suc zero) s = member_none s
    at (suc (suc zero)) s = member_none s
    at (suc (suc (suc k))) s =
        let n = suc (suc (suc k)) in rw (word_past 0 (w ∷ 0 ∷ 0 ∷ []) n (omega arith), ne_eqb n 0 (λ q. omega arith)) (member_none s)

none_at : (k : ℕ) → word_of 1 (replicate 2 0) k ≡ 0
unfolding word_of
none_at zero = refl
none_at (suc zero) = refl
none_at (suc (suc zero)) = refl
none_at (suc (suc (suc k))) = word_past 1 (replicate 2 0) (suc (suc (suc k))) (omega arith)

-- The words of a fresh set of facts: u has the states, x the inputs, y the states with fixed agents, v the states that are no
-- inputs, w those of v that have no fixed agents.
pub fresh_words : (n u x y v w : ℕ) → member u ≡ full_of n → member v ≡ without_of u x → member w ≡ without_of v y
    → facts_of
    (record {
      absent = w ∷ 0 ∷ 0 ∷ [];
      present = y ∷ 0 ∷ 0 ∷ [];
      at_most_one = replicate 2 0;
      unused = replicate 4 (replicate 2 0);
    })
    ≡ fresh_of n (member x) (member y)
unfolding fresh_of sets_of rules_of_run in_words
fresh_words n u x y v w d e f = rw (start_alone w, start_alone y, no_state, no_rule, f, e, d)
  where
    no_state : sets_of 1 (replicate 2 0) ≡ (λ _ _. false)
    no_state = fun_ext (λ k. fun_ext (λ s. rw (none_at k) (member_none s)))

    no_rule : rules_of_run (replicate 4 (replicate 2 0)) ≡ (λ _ _. false)
    no_rule = fun_ext (λ k. fun_ext (λ r. at k (r / 64) (r % 64)))
      where
        at : (k q i : ℕ) → member (get_or (map (λ w. word_of 1 w k) (replicate 4 (replicate 2 0))) q 0) i ≡ false
        at k zero i = rw (none_at k) (member_none i)
        at k (suc zero) i = rw (none_at k) (member_none i)
        at k (suc (suc zero)) i = rw (none_at k) (member_none i)
        at k (suc (suc (suc zero))) i = rw (none_at k) (member_none i)
        at k (suc (suc (suc (suc q)))) i = member_none i

-- By the words of a protocol's inputs and of its states with fixed agents they are the protocol's.
pub fresh_is : (P : Protocol) (u v : ℕ) → P.states ≤ 64 → member u ≡ among_of P.states P.input → member v ≡ among_of P.states (λ s. ltb 0 (P.fixed s))
    → fresh_of P.states (member u) (member v) ≡ fresh P
unfolding fresh fresh_of among_of
fresh_is P u v h e d =
    ap (λ (f : (ℕ → ℕ → Bool) × (ℕ → ℕ → Bool)). record { absent = f.0; present = f.1; at_most_one = λ _ _. false; unused = λ _ _. false })
    (pair_ap (fun_ext (λ k. fun_ext (λ s. ap (λ (b : Bool). eqb k 0 && b) (absent_at s)))) (fun_ext (λ k. fun_ext (present_at k))))
  where
    pair_ap : {f f' g g' : ℕ → ℕ → Bool} → f ≡ f' → g ≡ g' → ◌≡◌ {A = (ℕ → ℕ → Bool) × (ℕ → ℕ → Bool)} (f, g) (f', g')
    pair_ap p q = rw (p, q)

    other_at : (s : ℕ) → not (P.input s) && not (ltb 0 (P.fixed s)) ≡ eqb (P.fixed s) 0 && not (P.input s)
    other_at s =
        by_test (eqb (P.fixed s) 0)
        (λ z. rw (z, le-ltb 0 (P.fixed s) (omega (arith, eqb-true (P.fixed s) 0 z))) (and-true (not (P.input s))))
        (λ z. rw (z, lt-ltb 0 (P.fixed s) (omega (arith, eqb-false (P.fixed s) 0 z))) (and-false (not (P.input s))))

    absent_at : (s : ℕ)
        → ((ltb s 64 && ltb s P.states) && not (member u s)) && not (member v s) ≡ ltb s P.states && (eqb (P.fixed s) 0 && not (P.input s))
    absent_at s =
        by_test (ltb s P.states)
        (λ l. rw (e, d, l, lt-ltb s 64 (omega (arith, ltb-true s P.states l))) (other_at s))
        (λ l. rw (l, and-false (ltb s 64)))

    present_at : (k s : ℕ) → eqb k 0 && member v s ≡ ltb 0 (P.fixed s) && (eqb k 0 && ltb s P.states)
    present_at k s =
        by_test (ltb s P.states)
        (λ l.
        rw (d, l, lt-ltb s 64 (omega (arith, ltb-true s P.states l)))
        (by_test (eqb k 0) (λ z. rw z (sym (and-true (ltb 0 (P.fixed s))))) (λ z. rw z (sym (and-false (ltb 0 (P.fixed s)))))))
        (λ l. rw (d, l, and-false (ltb s 64), and-false (eqb k 0), and-false (ltb 0 (P.fixed s))))
