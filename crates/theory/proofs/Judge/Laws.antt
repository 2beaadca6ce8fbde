-- The code's branches follow the judgement, and a check passes just where no place of any test is bad. Assumes nothing.
use Rattle.std.specs.Prelude.{◌≡◌, Bool, true, false, ◌||◌, ◌⊎◌, ℕ, ◌≤◌, ◌<◌, ltb, eqb, Option, Some, None, Result, Ok, Err}
use Rattle.std.proofs.Math.Path.{refl, sym, ap}
use Rattle.std.proofs.Common.{◌∙◌, subst, arith}
use mathlib.Core.List.{List, [], ◌∷◌, ◌++◌, append-nil}
use Rattle.std.proofs.Math.Logic.{inl, inr, ⊎_elim}
use borrow.Author.Tests.{lt-ltb, le-ltb, ltb-true, ltb-false, eqb-false}
use Rattle.theory.proofs.Bool.Laws.{by_test, not_both, or_fails}
use Rattle.theory.proofs.Below.Laws.{first_is, first_passes, first-lowest}
use Rattle.theory.specs.Below.{Clear}
use Rattle.theory.specs.Below.Ends.{first_where}
use Rattle.theory.proofs.Below.Scan.{first_clear}
use Rattle.theory.specs.Judge.{Test, only, place, judge, Passes, FirstFits}
use Rattle.theory.specs.Judge.Found.{at_place, where_bad}

module _ {A : Type 0} (refuse : ℕ → ℕ → A) (pass r : A) where
  -- What the code found as the place of a test is k, or, of a test with one place, that it is bad or not is u. It answers r.
  module _ (t : Test) (ts : List Test) (k : ℕ) (e : k ≡ place t) where
    pub judge_hit : k < t.places → r ≡ refuse t.number k → r ≡ judge refuse pass (t ∷ ts)
    unfolding judge
    judge_hit l h = rw (← e, lt-ltb k t.places l, judge) (h ∙ ap (refuse t.number) e)

    pub judge_pass : t.places ≤ k → r ≡ judge refuse pass ts → r ≡ judge refuse pass (t ∷ ts)
    unfolding judge
    judge_pass l h = rw (← e, le-ltb k t.places l, judge) h

  module _ (n : ℕ) (t u : Bool) (ts : List Test) (d : u ≡ t) where
    pub only_hit : u ≡ true → r ≡ refuse n 0 → r ≡ judge refuse pass (only n t ∷ ts)
    only_hit e = judge_hit (only n t) ts 0 (sym (first_is 1 (λ _. t) 0 (omega arith) (λ k l. absurd (omega arith)) (λ _. sym d ∙ e))) (omega arith)

    pub only_pass : u ≡ false → r ≡ judge refuse pass ts → r ≡ judge refuse pass (only n t ∷ ts)
    only_pass e = judge_pass (only n t) ts 1 (sym (first_is 1 (λ _. t) 1 (omega arith) (λ k l. sym d ∙ e) (λ l. absurd (omega arith)))) (omega arith)

  pub judge_done : r ≡ pass → r ≡ judge refuse pass []
  unfolding judge
  judge_done h = h

pub ruleset judged = (judge_hit, judge_pass, judge_done)

module _ {A : Type 0} (refuse : ℕ → ℕ → A) (pass : A) where
  -- An answer that is no refusal: every test passed.
  pub judge-passes : (x : A) → ((n k : ℕ) → refuse n k ≡ x → ⊥) → (ts : List Test) → judge refuse pass ts ≡ x → Passes ts
  unfolding judge
  judge-passes x none [] e = tt
  judge-passes x none (t ∷ ts) e =
      by_test (ltb (place t) t.places)
      (λ l. absurd (none t.number (place t) (rw (l, judge) at e)))
      (λ l. (first_clear t.places t.bad (ltb-false _ _ l), judge-passes x none ts (rw (l, judge) at e)))

  pub passes-judge : (ts : List Test) → Passes ts → judge refuse pass ts ≡ pass
  unfolding judge
  passes-judge [] p = refl
  passes-judge (t ∷ ts) p =
      sym (judge_pass refuse pass pass t ts t.places
      (sym (first_is t.places t.bad t.places (omega arith) p.0 (λ l. absurd (omega arith))))
      (omega arith) (sym (passes-judge ts p.1)))

-- A check that answers by other words.
pub judge_map : {A B : Type 0} (f : A → B) (refuse : ℕ → ℕ → A) (pass : A) (ts : List Test)
    → f (judge refuse pass ts) ≡ judge (λ n k. f (refuse n k)) (f pass) ts
unfolding judge
judge_map f refuse pass [] = refl
judge_map f refuse pass (t ∷ ts) =
    by_test (ltb (place t) t.places) (λ l. rw (l, judge)) (λ l. rw (l, judge) (judge_map f refuse pass ts))

-- Tests behind tests.
pub judge-append : {A : Type 0} (refuse : ℕ → ℕ → A) (x : A) (us vs : List Test) → judge refuse x (us ++ vs) ≡ judge refuse (judge refuse x vs) us
unfolding judge
judge-append refuse x [] vs = refl
judge-append refuse x (t ∷ us) vs =
    by_test (ltb (place t) t.places) (λ l. rw (l, judge)) (λ l. rw (l, judge) (judge-append refuse x us vs))

pub passes-front : (us vs : List Test) → Passes (us ++ vs) → Passes us
passes-front [] vs p = tt
passes-front (t ∷ us) vs p = (p.0, passes-front us vs p.1)

pub passes_back : (us vs : List Test) → Passes (us ++ vs) → Passes vs
passes_back [] vs p = p
passes_back (t ∷ us) vs p = passes_back us vs p.1

pub passes_both : (us vs : List Test) → Passes us → Passes vs → Passes (us ++ vs)
passes_both [] vs p q = q
passes_both (t ∷ us) vs p q = (p.0, passes_both us vs p.1 q)

-- What a refusal means, where answers tell number and place.
module _ {A : Type 0} (refuse : ℕ → ℕ → A) (x : A) (tells : (n k m j : ℕ) → refuse n k ≡ refuse m j → (n ≡ m) × (k ≡ j)) where
  -- From a refusal to the first test that fits, or to what follows the tests.
  pub refused_by : (ts : List Test) (n k : ℕ) → judge refuse x ts ≡ refuse n k → FirstFits ts n k ⊎ (Passes ts × (x ≡ refuse n k))
  unfolding judge
  refused_by [] n k e = inr (tt, e)
  refused_by (t ∷ ts) n k e =
      by_test (ltb (place t) t.places)
      (λ l.
      let same = tells t.number (place t) n k (rw (l, judge) at e) in
      let lt : place t < t.places = ltb-true _ _ l in
      inl (record {
        earlier = [];
        test = t;
        later = ts;
        in_order = refl;
        earlier_pass = tt;
        number_is = same.0;
        within = rw same.1 at lt;
        fits = rw same.1 at (first_passes t.places t.bad lt);
        lowest_place = λ j m. first-lowest t.places t.bad j (omega (arith, same.1));
      }))
      (λ l.
      let clear = first_clear t.places t.bad (ltb-false _ _ l) in
      ⊎_elim
      (λ f. inl (record {
        earlier = t ∷ f.earlier;
        test = f.test;
        later = f.later;
        in_order = ap (λ us. t ∷ us) f.in_order;
        earlier_pass = (clear, f.earlier_pass);
        number_is = f.number_is;
        within = f.within;
        fits = f.fits;
        lowest_place = f.lowest_place;
      }))
      (λ p. inr ((clear, p.0), p.1))
      (refused_by ts n k (rw (l, judge) at e)))

passed : {A : Type 0} (refuse : ℕ → ℕ → A) (x r : A) (us vs : List Test) → Passes us → r ≡ judge refuse x vs → r ≡ judge refuse x (us ++ vs)
passed refuse x r [] vs p e = e
passed refuse x r (t ∷ us) vs p e =
    judge_pass refuse x r t (us ++ vs) t.places
    (sym (first_is t.places t.bad t.places (omega arith) p.0 (λ l. absurd (omega arith))))
    (omega arith) (passed refuse x r us vs p.1 e)

-- And back.
pub fits_refuses : {A : Type 0} (refuse : ℕ → ℕ → A) (x : A) (ts : List Test) (n k : ℕ) → FirstFits ts n k → judge refuse x ts ≡ refuse n k
fits_refuses refuse x ts n k f =
    let t = f.test in
    let at : k ≡ place t = sym (first_is t.places t.bad k (omega (arith, f.within)) f.lowest_place (λ _. f.fits)) in
    ap (judge refuse x) f.in_order
    ∙ sym (passed refuse x (refuse n k) f.earlier (t ∷ f.later) f.earlier_pass
    (judge_hit refuse x (refuse n k) t f.later k at f.within (ap (λ i. refuse i k) (sym f.number_is))))

-- The first that fits is the first test, at its lowest bad place, or one behind it, where the first test passes.
module _ (t : Test) (ts : List Test) (n k : ℕ) where
  abbrev pub FitsHere : Type 0
  FitsHere = (t.number ≡ n) × (k < t.places) × (t.bad k ≡ true) × Clear t.bad k

  pub fits_split : FirstFits (t ∷ ts) n k → FitsHere ⊎ (Clear t.bad t.places × FirstFits ts n k)
  fits_split f = go f.earlier f.in_order f.earlier_pass
    where
      go : (us : List Test) → t ∷ ts ≡ us ++ f.test ∷ f.later → Passes us → FitsHere ⊎ (Clear t.bad t.places × FirstFits ts n k)
      go [] e p =
          let h : f.test ≡ t = cc in
          inl (subst (λ (x : Test). (x.number ≡ n) × (k < x.places) × (x.bad k ≡ true) × Clear x.bad k) h
          (f.number_is, f.within, f.fits, f.lowest_place))
      go (u ∷ us) e p =
          let h : u ≡ t = cc in
          let rest : ts ≡ us ++ f.test ∷ f.later = cc in
          inr (
            subst (λ (x : Test). Clear x.bad x.places) h p.0,
            record {
              earlier = us;
              test = f.test;
              later = f.later;
              in_order = rest;
              earlier_pass = p.1;
              number_is = f.number_is;
              within = f.within;
              fits = f.fits;
              lowest_place = f.lowest_place;
            },
          )

  pub fits-here : (FirstFits ts n k → ⊥) → FirstFits (t ∷ ts) n k → FitsHere
  fits-here none f = ⊎_elim (λ h. h) (λ s. absurd (none s.1)) (fits_split f)

pub fits_none : (n k : ℕ) → FirstFits [] n k → ⊥
fits_none n k f = go f.earlier f.in_order
  where
    go : (us : List Test) → [] ≡ us ++ f.test ∷ f.later → ⊥
    go [] e = let z : ◌≡◌ {A = ℕ} 0 1 = cc in omega arith
    go (u ∷ us) e = let z : ◌≡◌ {A = ℕ} 0 1 = cc in omega arith

-- Whether one of the tests has number n.
abbrev pub numbered : ℕ → List Test → Bool
numbered n [] = false
numbered n (t ∷ ts) = eqb t.number n || numbered n ts

-- The first that fits stands behind tests of other numbers, and behind tests that pass; where all have other numbers, none fits.
pub fits_past : (us vs : List Test) (n k : ℕ) → numbered n us ≡ false → FirstFits (us ++ vs) n k → Passes us × FirstFits vs n k
fits_past [] vs n k w f = (tt, f)
fits_past (u ∷ us) vs n k w f =
    let o = or_fails (eqb u.number n) (numbered n us) w in
    ⊎_elim
    (λ h. absurd (eqb-false u.number n o.0 h.0))
    (λ s. let r = fits_past us vs n k o.1 s.1 in ((s.0, r.0), r.1))
    (fits_split u (us ++ vs) n k f)

pub fits_other : (ts : List Test) (n k : ℕ) → numbered n ts ≡ false → FirstFits ts n k → ⊥
fits_other ts n k w f = fits_none n k (fits_past ts [] n k w (subst (λ us. FirstFits us n k) (sym (append-nil ts)) f)).1

pub fits_after : (us vs : List Test) (n k : ℕ) → Passes us → FirstFits (us ++ vs) n k → FirstFits vs n k
fits_after [] vs n k p f = f
fits_after (u ∷ us) vs n k p f =
    ⊎_elim (λ h. absurd (not_both h.2 (p.0 k h.1))) (λ s. fits_after us vs n k p.1 s.1) (fits_split u (us ++ vs) n k f)

-- ---- A check that answers a Result, and makes its tests by `?`

-- The error of a result that is one.
abbrev err_or : {A R : Type 0} → R → Result A R → R
err_or q (Ok a) = q
err_or q (Err r) = r

abbrev IsNoErr : {A R : Type 0} → Result A R → Type 0
IsNoErr (Ok a) = Unit {0}
IsNoErr (Err r) = ⊥

module _ {A R : Type 0} (refuse : ℕ → ℕ → R) (pass r : Result A R) where
  -- The judgement of the tests behind one whose lowest bad place, if it has one, is o.
  abbrev after_place : ℕ → List Test → Option ℕ → Result A R
  after_place n ts (Some k) = Err (refuse n k)
  after_place n ts None = judge (λ m k. Err (refuse m k)) pass ts

  by_place : (t : Test) (ts : List Test) → judge (λ m k. Err (refuse m k)) pass (t ∷ ts) ≡ after_place t.number ts (first_where t.places t.bad)
  unfolding judge first_where
  by_place t ts = by_test (ltb (place t) t.places) (λ e. rw (judge, first_where, e) refl) (λ e. rw (judge, first_where, e) refl)

  -- x is what the first test finds, by its lowest bad place o. It answers r.
  module _ (t : Test) (ts : List Test) (x : Result (Unit {0}) R) (o : Option ℕ) (d : x ≡ at_place refuse t.number o) (e : o ≡ first_where t.places t.bad) where
    pub test_refuses : (q : R) → x ≡ Err q → r ≡ Err q → r ≡ judge (λ m k. Err (refuse m k)) pass (t ∷ ts)
    test_refuses q u h = rw (by_place t ts, ← e) (go o (sym u ∙ d))
      where
        go : (o : Option ℕ) → Err q ≡ at_place refuse t.number o → r ≡ after_place t.number ts o
        go (Some k) g = h ∙ ap Err (ap (err_or q) g)
        go None g = absurd (subst IsNoErr (sym g) tt)

    pub test_passes : x ≡ Ok tt → r ≡ judge (λ m k. Err (refuse m k)) pass ts → r ≡ judge (λ m k. Err (refuse m k)) pass (t ∷ ts)
    test_passes u h = rw (by_place t ts, ← e) (go o (sym u ∙ d))
      where
        go : (o : Option ℕ) → Ok tt ≡ at_place refuse t.number o → r ≡ after_place t.number ts o
        go (Some k) g = absurd (subst IsNoErr g tt)
        go None g = h

-- The last test, whose answer is that of the check.
pub test_last : {R : Type 0} (refuse : ℕ → ℕ → R) (t : Test) (x : Result (Unit {0}) R) (o : Option ℕ) → x ≡ at_place refuse t.number o
    → o ≡ first_where t.places t.bad → x ≡ judge (λ m k. Err (refuse m k)) (Ok tt) (t ∷ [])
unfolding judge
test_last refuse t x o d e = rw (by_place refuse (Ok (tt {0})) (Ok (tt {0})) t [], ← e) (d ∙ go o)
  where
    go : (o : Option ℕ) → at_place refuse t.number o ≡ after_place refuse (Ok tt) (Ok tt) t.number [] o
    go (Some k) = refl
    go None = refl

-- A test that points at nothing, of which u says whether it is bad; x is what it finds.
module _ {A R : Type 0} (refuse : ℕ → ℕ → R) (pass r : Result A R) (n : ℕ) (t : Bool) (ts : List Test) (x : Result (Unit {0}) R) (u : Bool)
    (d : x ≡ where_bad refuse n u) (e : u ≡ t) where
  pub only_refuses : (q : R) → x ≡ Err q → r ≡ Err q → r ≡ judge (λ m k. Err (refuse m k)) pass (only n t ∷ ts)
  only_refuses q v h = go u e (sym v ∙ d)
    where
      go : (u : Bool) → u ≡ t → Err q ≡ where_bad refuse n u → r ≡ judge (λ m k. Err (refuse m k)) pass (only n t ∷ ts)
      go true f g = only_hit (λ m k. Err (refuse m k)) pass r n t true ts f refl (h ∙ ap Err (ap (err_or q) g))
      go false f g = absurd (subst IsNoErr (sym g) tt)

  pub only_passes : x ≡ Ok tt → r ≡ judge (λ m k. Err (refuse m k)) pass ts → r ≡ judge (λ m k. Err (refuse m k)) pass (only n t ∷ ts)
  only_passes v h = go u e (sym v ∙ d)
    where
      go : (u : Bool) → u ≡ t → Ok tt ≡ where_bad refuse n u → r ≡ judge (λ m k. Err (refuse m k)) pass (only n t ∷ ts)
      go true f g = absurd (subst IsNoErr g tt)
      go false f g = only_pass (λ m k. Err (refuse m k)) pass r n t false ts f refl h
