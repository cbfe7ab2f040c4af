pub mod FaultLaws
pub mod NameLaws
pub mod PreconditionLaws
pub mod PutLaws
pub mod SortLaws
pub mod StraightLaws
pub mod SupplyLaws
