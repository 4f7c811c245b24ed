use Rattle.std.proofs.Common.{refl, arith}
use Rattle.examples.proofs.NeverShown.{shows_first_two}
use Rattle.examples.proofs.worked.worked_examples.Goals as goal

-- one row after another
infixr 30 ◌&◌
◌&◌ : {A B : Type 0} → A → B → A × B
a & b = (a, b)

pub returns : goal.returns
returns c = record {
  rows = refl;
  hold =
      refl & refl & refl & refl & refl & refl & refl & refl & refl & refl & refl & refl & refl & refl & refl
      & (λ w t k m e. omega (arith, shows_first_two w t 3 k m e))
      & (λ w t k m e. omega (arith, shows_first_two w t 4 k m e))
      & refl & refl & refl & refl & tt;
}
