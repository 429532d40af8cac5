pub mod WordLemmas
pub mod SectorLemmas
pub mod FreshLemmas
pub mod CountLemmas
pub mod ReadLemmas
pub mod ReadWords
