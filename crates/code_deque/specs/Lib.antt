pub mod CodeDeque
