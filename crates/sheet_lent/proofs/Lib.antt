-- Laws of lent last numbers.
pub mod Lending
