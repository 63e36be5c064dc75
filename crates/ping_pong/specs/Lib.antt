pub mod PingPong
pub mod Laws
