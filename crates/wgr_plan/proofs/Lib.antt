pub mod OnePlan
pub mod PlanLemmas
