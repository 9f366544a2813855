pub mod Plan
pub mod PlanFault
pub mod PlanLaws
pub mod RowFaultNames
