mod AbsentLaws
mod GatheredLaws
mod GrowthLaws
mod HeldLaws
mod PutLaws
mod PartLaws
mod TableLaws
mod Common
