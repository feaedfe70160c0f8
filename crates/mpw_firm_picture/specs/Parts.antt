-- The parts of the text that all pictures have in common, in their order.
use Rattle.std.specs.Prelude.{ℕ, List, ◌++◌, codes}
use Rattle.mpw_firm_picture.specs.declared.part.Part.{Part}
use Rattle.mpw_firm_picture.specs.declared.part.Part.TheVariants.{Head, Title, LayerColours, RuleColours, Patterns, Ground, Dense, End}

unfoldable pub part_text : Part → List ℕ
part_text Head =
    codes
    "<?xml version=\"1.0\" encoding=\"utf-8\"?>\n<svg xmlns=\"http://www.w3.org/2000/svg\" font-family=\"sans-serif\" font-size=\"16\" viewBox=\"-170 -90 1340 "
part_text Title = codes "\">\n<title>"
part_text LayerColours =
    codes
    "</title>\n<style>\n.l{opacity:.6}\n.l0{fill:#4e79a7}\n.l1{fill:#f28e2b}\n.l2{fill:#59a14f}\n.l3{fill:#b07aa1}\n.l4{fill:#edc948}\n"
    ++ codes
    ".l5{fill:#76b7b2}\n.l6{fill:#9c755f}\n.l7{fill:#17becf}\n.l8{fill:#bcbd22}\n.l9{fill:#8cd17d}\n.l10{fill:#9ecae1}\n.l11{fill:#79706e}\n"
part_text RuleColours =
    codes
    ".m{fill-opacity:.2;stroke-linejoin:round}\n.m0{fill:#d00000;stroke:#d00000}\n.m1{fill:#0000d0;stroke:#0000d0}\n"
    ++ codes
    ".m2{fill:#b000b0;stroke:#b000b0}\n.m3{fill:#000000;stroke:#000000}\n.m4{fill:#007000;stroke:#007000}\n"
    ++ codes
    ".m5{fill:#804000;stroke:#804000}\n.m6{fill:#ff5a00;stroke:#ff5a00}\n.m7{fill:#008b8b;stroke:#008b8b}\n"
    ++ codes
    ".m8{fill:#6a00ff;stroke:#6a00ff}\n.m9{fill:#808000;stroke:#808000}\n.m10{fill:#ff1493;stroke:#ff1493}\n"
    ++ codes
    ".m11{fill:#405a80;stroke:#405a80}\n.w{fill:none;stroke:#000;stroke-linecap:round;stroke-linejoin:round}\n"
part_text Patterns = codes "</style>\n<defs>\n"
part_text Ground =
    codes
    "</defs>\n<rect x=\"-170\" y=\"-90\" width=\"100%\" height=\"100%\" fill=\"#fff\"/>\n"
part_text Dense =
    codes
    " markers, drawn as a density: the darker a square, the more digits has the number of markers in it</text>\n"
part_text End = codes "</g>\n</svg>\n"
