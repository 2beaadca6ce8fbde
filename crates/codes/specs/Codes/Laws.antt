-- The numbers of an answer, by its cases: what a call returns, and what it writes where `old` stood. Assumes nothing.
use Rattle.std.specs.Prelude.{◌≡◌}
use Rattle.std.proofs.Common.{sym, ap, ◌∙◌}

module _ {A B C : Type 0} where
  -- What f says of b, which is what the answer a comes to by r, c being the case of a.
  pub told_by : (r : A → C) (f : C → B) (a c : A) (b : C) (n : B) → r a ≡ b → a ≡ c → n ≡ f (r c) → n ≡ f b
  told_by r f a c b n e g h = h ∙ sym (ap (λ x. f (r x)) g) ∙ ap f e

  -- The same of what is written where `old` stood.
  pub told_by_at : (r : A → C) (f : B → C → B) (a c : A) (b : C) (old n : B) → r a ≡ b → a ≡ c → n ≡ f old (r c) → n ≡ f old b
  told_by_at r f a c b old = told_by r (f old) a c b

module _ {A B : Type 0} where
  -- What f says of b, which is the answer a, c being the case of a.
  pub told : (f : A → B) (a c b : A) (n : B) → a ≡ b → a ≡ c → n ≡ f c → n ≡ f b
  told = told_by (λ a. a)

  pub told_at : (f : B → A → B) (a c b : A) (old n : B) → a ≡ b → a ≡ c → n ≡ f old c → n ≡ f old b
  told_at = told_by_at (λ a. a)
