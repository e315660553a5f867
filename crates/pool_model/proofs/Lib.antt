pub mod NameLists
pub mod LastCategory
pub mod PanelWeights
pub mod IdsInOrder
