-- An answer can be had back from what is shown of it, so a promise on what is shown allows one answer.
-- Assumes nothing.
use mathlib.Core.Path.{◌≡◌, refl}
use mathlib.Core.List.{List, [], ◌∷◌}
use Prim.Native.Nat.{ℕ, zero, suc}
use Rattle.info.specs.Shown.{shown_children, shown_class}
use Rattle.info.specs.declared.node.Children.{Children}
use Rattle.info.specs.declared.node.Children.TheVariants as children
use Rattle.info.specs.declared.node.Class.{Class}
use Rattle.info.specs.declared.node.Class.TheVariants as class

abbrev pub children_back : List ℕ → Children
children_back [] = children.None
children_back (a ∷ []) = children.One a
children_back (a ∷ (b ∷ more)) = children.Two a b

pub children_again : (r : Children) → children_back (shown_children r) ≡ r
children_again children.None = refl
children_again (children.One a) = refl
children_again (children.Two a b) = refl

abbrev pub class_back : ℕ → Class
class_back zero = class.External
class_back (suc zero) = class.Block
class_back (suc (suc n)) = class.Other

pub class_again : (c : Class) → class_back (shown_class c) ≡ c
class_again class.External = refl
class_again class.Block = refl
class_again class.Other = refl
