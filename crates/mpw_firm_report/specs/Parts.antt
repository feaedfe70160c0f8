-- The parts of the text that all reports have in common, in their order.
use Rattle.std.specs.Prelude.{ℕ, List, codes}
use Rattle.mpw_firm_report.specs.declared.part.Part.{Part}
use Rattle.mpw_firm_report.specs.declared.part.Part.TheVariants.{Head, HeadEnd, NoOriginal, Original, OriginalEnd, Generator, Categories, CategoryName, Description, CategoryEnd, FaultCategory, Cells, Items, ItemPath, ItemCell, Value, FaultItem, NextValue, ItemEnd, End}

unfoldable pub part_text : Part → List ℕ
part_text Head =
    codes "<?xml version=\"1.0\" encoding=\"utf-8\"?>\n<report-database>\n <description>Markers of "
part_text HeadEnd = codes "</description>\n"
part_text NoOriginal = codes " <original-file/>\n"
part_text Original = codes " <original-file>"
part_text OriginalEnd = codes "</original-file>\n"
part_text Generator = codes " <generator>mpw check</generator>\n <top-cell>"
part_text Categories = codes "</top-cell>\n <tags>\n </tags>\n <categories>\n"
part_text CategoryName = codes "  <category>\n   <name>"
part_text Description = codes "</name>\n   <description>"
part_text CategoryEnd = codes "</description>\n   <categories>\n   </categories>\n  </category>\n"
part_text FaultCategory =
    codes
    "  <category>\n   <name>faults of elements</name>\n   <description>elements that can't be read, each by its code, the byte in the file and its structure</description>\n   <categories>\n   </categories>\n  </category>\n"
part_text Cells = codes " </categories>\n <cells>\n  <cell>\n   <name>"
part_text Items =
    codes
    "</name>\n   <variant/>\n   <references>\n   </references>\n  </cell>\n </cells>\n <items>\n"
part_text ItemPath = codes "  <item>\n   <tags/>\n   <category>"
part_text ItemCell = codes "</category>\n   <cell>"
part_text Value =
    codes
    "</cell>\n   <visited>false</visited>\n   <multiplicity>1</multiplicity>\n   <image/>\n   <values>\n    <value>"
part_text FaultItem =
    codes "  <item>\n   <tags/>\n   <category>'faults of elements'</category>\n   <cell>"
part_text NextValue = codes "</value>\n    <value>"
part_text ItemEnd = codes "</value>\n   </values>\n  </item>\n"
part_text End = codes " </items>\n</report-database>\n"
