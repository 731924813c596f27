pub mod SilentKind
pub mod ErasableKind
