-- What callers see of a shelf in memory.
use Rattle.tk_io.specs.declared.shelves.MemShelf.TheInside.{Inside}
use Rattle.tk_io.specs.Stock.{Stock}

-- the files, the limits and the counts as plain data
abbrev pub shown_stock : Inside → Stock
shown_stock shelf = record {
  desk = shelf.desk;
  most = shelf.most;
  failing = shelf.failing.items;
  calls = shelf.calls;
  faults = shelf.faults.items;
  other_faults = shelf.other_faults;
}
