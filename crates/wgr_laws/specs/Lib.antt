pub mod Laws
pub mod PeerLaws
pub mod AdoptionLaws
pub mod AdoptedAgain
pub mod FirstAdoption
