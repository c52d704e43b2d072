pub mod SymbolFile
