-- Text that is written on a page: a lent buffer and its next free place.
use Rattle.std.specs.Prelude.{◌≡◌, List, ℕ}
use Rattle.text.specs.declared.Page.{Page}
use Rattle.text.specs.Paste.{RoomForBytes, Pasted}

-- the page has room for the bytes
abbrev pub HasRoom : Page → List ℕ → Type 0
HasRoom page bytes = RoomForBytes page.out.now page.at bytes

-- the bytes are in the page's buffer from its place on, nothing else has changed there, and its place is right behind them
pub record Writes (before : Page) (bytes : List ℕ) (after : Page) : Type 0 where
  pub pasted : Pasted before.out.now before.at bytes after.at after.out.now
  pub same_buffer : after.out.ghost_name ≡ before.out.ghost_name
