pub mod PlanLaws
pub mod LookRuns
pub mod ChangeRuns
pub mod FoldRuns
pub mod RatingRuns
pub mod TurnRuns
pub mod PageRuns
pub mod OpenPlans
