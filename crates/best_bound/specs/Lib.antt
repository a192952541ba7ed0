pub mod EngineBound
