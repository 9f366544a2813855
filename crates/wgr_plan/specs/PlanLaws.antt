-- Laws of plans.
use Rattle.std.specs.Prelude.{ℕ, ◌≡◌, List}
use Rattle.wgr_text.specs.Prefix.{PrefixValue}
use Rattle.wgr_plan.specs.Plan.{Plan, IsPlanOf}

-- a text has one plan at most
abbrev pub OnePlan : Type 0
OnePlan = (pool : PrefixValue) (text : List ℕ) (p q : Plan) → IsPlanOf pool text p → IsPlanOf pool text q → p ≡ q
