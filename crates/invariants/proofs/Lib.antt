pub mod InvariantsLaws
