-- The item of the definitions that an item of the code stands for.
use Rattle.tcltext.specs.pattern.Search.Items.{Item}
use Rattle.std.specs.Str.{chars}
use Rattle.tcltext.specs.declared.pattern.reading.Item as rust_item

abbrev pub item_view : rust_item.Item → Item
item_view i = record { low = i.low; high = i.high; rest = chars i.rest.now }
