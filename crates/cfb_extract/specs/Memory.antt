-- What stands in a folder in memory.
use Rattle.std.specs.Prelude.{ℕ, List, [], ◌∷◌, Option, Some, None, Vec, map}
use Rattle.cfb_extract.specs.declared.memory.MemoryItem.{MemoryItem}
use Rattle.cfb_extract.specs.declared.memory.MemoryFolder.{MemoryFolder}
use Rattle.cfb_extract.specs.Items.{Item, a_file, a_folder, texts}

-- a file with these bytes, or a folder
abbrev pub made_item : {A : Type 0} → List (List ℕ) → Option (Vec ℕ A) → Item
made_item place None = a_folder place
made_item place (Some bytes) = a_file place bytes.items

abbrev pub item_of : {A : Type 0} → MemoryItem A → Item
item_of item = made_item (texts item.place.items) item.content

abbrev pub items_in : {A : Type 0} → MemoryFolder A → List Item
items_in folder = map item_of folder.items.items
